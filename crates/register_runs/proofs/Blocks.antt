-- The bytes of a block: what stores and an accepted command leave in pending, in the interrupt line, and in the reply.
-- Assumes nothing.
use Prim.Native.Nat.{ℕ, zero, suc, ◌+◌, ◌/◌, ◌%◌, ◌^◌, ◌<◌}
use mathlib.Core.Path.{◌≡◌, refl, sym, ap, subst, ◌∙◌}
use mathlib.Core.Bool.{Bool, true, false, cond, not, ◌&&◌, ◌||◌, and-true, or-false}
use mathlib.Core.List.{List}
use native.Mathlib.Omega.{arith}
use lib.Dec.{eqb, lit<}
use lib.ListN.{length, get_or, take, drop, set, length-set}
use lib.Seq.{slice, length-slice, get_or-set_same, get_or-set_other, take-set-le, take-set-lt, drop-set-lt}
use borrow.Author.Tests.{eqb-true, eqb-false}
use Rattle.masks.specs.Sets.{bit}
use Rattle.masks.proofs.Places.{bit_zero}
use Rattle.masks.proofs.Masks.{mask_below, bit_mask_at}
use Rattle.encoding.specs.Numbers.{number, bytes_of}
use Rattle.encoding.proofs.Bytes.{AreBytes}
use Rattle.encoding.proofs.Numbers.{number_bytes_of, bytes_bytes_of}
use Rattle.rules.specs.Replies.{Response, refused_with}
use Rattle.registers.specs.declared.Register.TheVariants.{Pending}
use Rattle.registers.specs.Registers.{register_at, refusal_in, late_in, granted_in, entitled_in, pending_in, raised, line_of}
use Rattle.registers.specs.Registers.{with_line}
use Rattle.registers.specs.Stores.{cleared, new_byte, stored}
use Rattle.register_block.specs.Registers.{with_mask, joined, accepted_block, refused_block, replied_block}
use Rattle.register_runs.specs.Steps.{reply_in}
use Rattle.register_runs.proofs.Bytes.{bit_number, get_d_slice, listed, by_elements}
use Rattle.register_runs.proofs.Replies.{Holdable}

-- A block of 32 bytes whose pending registers are below 256.
pub record Whole (bytes : List ℕ) : Type 0 where
  pub full : length bytes ≡ 32
  pub small : AreBytes (slice 20 24 bytes)

-- A processor's pending bit, in its byte.
pub pending_bit : (bytes : List ℕ) → Whole bytes → (p : ℕ) → p < 32
    → bit (pending_in bytes) p ≡ bit (get_or bytes (20 + p / 8) 0) (p % 8)
pending_bit bytes h p few =
    let inside : 20 + p / 8 < 24 = omega arith in
    bit_number (slice 20 24 bytes) h.small p ∙ ap (λ (x : ℕ). bit x (p % 8)) (get_d_slice 20 24 bytes (p / 8) inside)

-- ---- the interrupt line at its offset

at_line : (l : List ℕ) → length l ≡ 32 → (x : ℕ) → get_or (set l 28 x) 28 0 ≡ x
at_line l e x = get_or-set_same l 28 x 0 (omega arith)

pending_under_line : (l : List ℕ) (x : ℕ) → slice 20 24 (set l 28 x) ≡ slice 20 24 l
pending_under_line l x = ap (drop 20) (take-set-le 24 l 28 x (lit< tt))

enabled_under_line : (l : List ℕ) (x : ℕ) → slice 24 28 (set l 28 x) ≡ slice 24 28 l
enabled_under_line l x = ap (drop 24) (take-set-le 28 l 28 x (lit< tt))

line_same : (l m : List ℕ) → slice 20 24 m ≡ slice 20 24 l → slice 24 28 m ≡ slice 24 28 l → line_of m ≡ line_of l
unfolding raised
line_same l m p e = rw (p, e)

pub line_right : (l : List ℕ) → length l ≡ 32 → get_or (with_line l).bytes 28 0 ≡ line_of (with_line l).bytes
unfolding with_line
line_right l e = at_line l e (line_of l) ∙ sym
    (line_same l _ (pending_under_line l (line_of l)) (enabled_under_line l (line_of l)))

pub line_pending : (l : List ℕ) → slice 20 24 (with_line l).bytes ≡ slice 20 24 l
unfolding with_line
line_pending l = pending_under_line l (line_of l)

pub line_whole : (l : List ℕ) → Whole l → Whole (with_line l).bytes
unfolding with_line
line_whole l h =
    record {
      full = length-set l 28 _ ∙ h.full;
      small = subst AreBytes (sym (pending_under_line l (line_of l)))
          h.small;
    }

-- ---- a store

-- The four pending offsets.
pub pending_place : (k : ℕ) → k < 4 → register_at (20 + k) ≡ Pending
unfolding register_at
pending_place zero l = refl
pending_place (suc zero) l = refl
pending_place (suc (suc zero)) l = refl
pending_place (suc (suc (suc zero))) l = refl
pending_place (suc (suc (suc (suc k)))) l = absurd (omega arith)

module _ (bytes : List ℕ) (h : Whole bytes) (o v : ℕ) where
  abbrev new : ℕ
  new = new_byte (register_at o) (get_or bytes o 0) v

  new_pending : (k : ℕ) → k < 4 → o ≡ 20 + k → new ≡ cleared 8 (get_or bytes o 0) v
  new_pending k l e = ap (λ r. new_byte r (get_or bytes o 0) v) (ap register_at e ∙ pending_place k l)

  byte_after : (k : ℕ) → k < 4 → get_or (set bytes o new) (20 + k) 0
      ≡ cond (eqb o (20 + k)) (cleared 8 (get_or bytes (20 + k) 0) v) (get_or bytes (20 + k) 0)
  byte_after k l = go (eqb o (20 + k)) refl
    where
      go : (t : Bool) → eqb o (20 + k) ≡ t → get_or (set bytes o new) (20 + k) 0
          ≡ cond t (cleared 8 (get_or bytes (20 + k) 0) v) (get_or bytes (20 + k) 0)
      go true e =
          let same : o ≡ 20 + k = eqb-true o (20 + k) e in
          let inside : o < length bytes = omega (arith, h.full) in
          ap (λ (i : ℕ). get_or (set bytes o new) i 0) (sym same)
          ∙ get_or-set_same bytes o new 0 inside
          ∙ new_pending k l same
          ∙ ap (λ (i : ℕ). cleared 8 (get_or bytes i 0) v) same
      go false e = get_or-set_other bytes o (20 + k) new 0 (λ same. eqb-false o (20 + k) e (sym same))

  small_after : (k : ℕ) → k < 4 → get_or (set bytes o new) (20 + k) 0 < 2 ^ 8
  unfolding cleared
  small_after k l = rw (byte_after k l) (go (eqb o (20 + k)))
    where
      old : get_or bytes (20 + k) 0 < 2 ^ 8
      old = rw (get_d_slice 20 24 bytes k (omega arith)) at
          (h.small k (omega (arith, length-slice 20 24 bytes (omega (arith, h.full)))))

      go : (t : Bool) → cond t (cleared 8 (get_or bytes (20 + k) 0) v) (get_or bytes (20 + k) 0) < 2 ^ 8
      go true = mask_below 8 _
      go false = old

  set_whole : Whole (set bytes o new)
  set_whole =
      record {
        full = length-set bytes o new ∙ h.full;
        small =
            λ i l.
            let few : i < 4 = omega (
              arith,
              length-slice 20 24 (set bytes o new)
                  (omega (arith, length-set bytes o new, h.full)),
            ) in
            rw (get_d_slice 20 24 (set bytes o new) i (omega arith)) (small_after i few);
      }

  pub stored_whole : Whole (stored (record { bytes = bytes }) o v).bytes
  unfolding stored
  stored_whole = line_whole (set bytes o new) set_whole

  pub stored_line : get_or (stored (record { bytes = bytes }) o v).bytes 28 0
      ≡ line_of (stored (record { bytes = bytes }) o v).bytes
  unfolding stored
  stored_line = line_right (set bytes o new) set_whole.full

  -- A bit is cleared if a 1 is written to it, and every other bit stays.
  pub stored_pending : (p : ℕ) → p < 32
      → bit (pending_in (stored (record { bytes = bytes }) o v).bytes) p
      ≡ (bit (pending_in bytes) p && not (eqb o (20 + p / 8) && bit v (p % 8)))
  unfolding stored cleared
  stored_pending p few =
      ap (λ s. bit (number s) p) (line_pending (set bytes o new))
      ∙ pending_bit (set bytes o new) set_whole p few
      ∙ ap (λ (x : ℕ). bit x (p % 8)) (byte_after (p / 8) (omega arith))
      ∙ go (eqb o (20 + p / 8))
      ∙ ap (λ t. t && not (eqb o (20 + p / 8) && bit v (p % 8))) (sym (pending_bit bytes h p few))
    where
      old : ℕ
      old = get_or bytes (20 + p / 8) 0

      go : (t : Bool) → bit (cond t (cleared 8 old v) old) (p % 8) ≡ (bit old (p % 8) && not (t && bit v (p % 8)))
      go true = bit_mask_at 8 (λ i. bit old i && not (bit v i)) (p % 8) (omega arith)
      go false = sym (and-true (bit old (p % 8)))

-- ---- a refused command

module _ (bytes : List ℕ) (h : Whole bytes) (x : ℕ) where
  refused_pending_slice : slice 20 24 (set bytes 3 x) ≡ slice 20 24 bytes
  refused_pending_slice = ap (drop 20) (take-set-lt 24 bytes 3 x (lit< tt))
      ∙ drop-set-lt 20 (take 24 bytes) 3 x (lit< tt)

  refused_enabled_slice : slice 24 28 (set bytes 3 x) ≡ slice 24 28 bytes
  refused_enabled_slice = ap (drop 24) (take-set-lt 28 bytes 3 x (lit< tt))
      ∙ drop-set-lt 24 (take 28 bytes) 3 x (lit< tt)

  pub refused_whole : Whole (set bytes 3 x)
  refused_whole = record {
    full = length-set bytes 3 x
        ∙ h.full;
    small = subst AreBytes (sym refused_pending_slice) h.small;
  }

  pub refused_line : get_or bytes 28 0 ≡ line_of bytes → get_or (set bytes 3 x) 28 0 ≡ line_of (set bytes 3 x)
  refused_line e =
      get_or-set_other bytes 3 28 x 0 (λ z. absurd (omega arith))
      ∙ e
      ∙ sym (line_same bytes (set bytes 3 x) refused_pending_slice refused_enabled_slice)

  pub refused_pending : pending_in (set bytes 3 x) ≡ pending_in bytes
  refused_pending = ap number refused_pending_slice

  pub refused_number : refusal_in (set bytes 3 x) ≡ x
  refused_number = get_or-set_same bytes 3 x 0 (omega (arith, h.full))

-- ---- an accepted command

-- What the block contains before the interrupt line is stored.
pub record Answered (bytes : List ℕ) (reply : Response) (l : List ℕ) : Type 0 where
  pub full : length l ≡ 32
  pub pending : slice 20 24 l ≡ bytes_of 4 (joined 32 (pending_in bytes) reply.granted)
  pub refusal : refusal_in (with_line l).bytes ≡ 0
  pub late : late_in (with_line l).bytes ≡ reply.late
  pub granted : slice 12 16 (with_line l).bytes ≡ bytes_of 4 reply.granted
  pub entitled : slice 16 20 (with_line l).bytes ≡ bytes_of 4 reply.entitled

abbrev answered_bytes : Response → List ℕ → List ℕ
answered_bytes reply bytes =
    with_mask 20 (joined 32 (pending_in bytes) reply.granted)
    (with_mask 16 reply.entitled (with_mask 12 reply.granted (set (set bytes 3 0) 9 reply.late)))

answered_bytes_law : (reply : Response) (bytes : List ℕ) → length bytes ≡ 32
    → Answered bytes reply (answered_bytes reply bytes)
unfolding listed bytes_of with_line
answered_bytes_law reply =
    by_elements 32 (λ bytes. Answered bytes reply (answered_bytes reply bytes))
    (λ f. record { full = refl; pending = refl; refusal = refl; late = refl; granted = refl; entitled = refl })

module _ (bytes : List ℕ) (h : Whole bytes) (reply : Response) (r : Holdable reply) where
  abbrev there : Answered bytes reply (answered_bytes reply bytes)
  there = answered_bytes_law reply bytes h.full

  accepted_whole : Whole (accepted_block bytes reply).bytes
  unfolding accepted_block
  accepted_whole =
      line_whole (answered_bytes reply bytes)
      (record {
        full = there.full;
        small = subst AreBytes (sym there.pending)
            (bytes_bytes_of 4 (joined 32 (pending_in bytes) reply.granted));
      })

  accepted_line : get_or (accepted_block bytes reply).bytes 28 0 ≡ line_of (accepted_block bytes reply).bytes
  unfolding accepted_block
  accepted_line = line_right (answered_bytes reply bytes) there.full

  accepted_pending : (p : ℕ) → p < 32 → bit (pending_in (accepted_block bytes reply).bytes) p
      ≡ (bit (pending_in bytes) p || bit reply.granted p)
  unfolding accepted_block joined
  accepted_pending p few =
      ap (λ s. bit (number s) p) (line_pending (answered_bytes reply bytes) ∙ there.pending)
      ∙ ap (λ (x : ℕ). bit x p) (number_bytes_of 4 (joined 32 (pending_in bytes) reply.granted) (mask_below 32 _))
      ∙ bit_mask_at 32 (λ q. bit (pending_in bytes) q || bit reply.granted q) p few

  accepted_reply : reply.number ≡ 0 → reply_in (accepted_block bytes reply).bytes ≡ reply
  unfolding accepted_block
  accepted_reply z =
      ap (λ (n : ℕ). cond (eqb n 0) shown (refused_with n)) there.refusal
      ∙ (λ i. record { number = sym z i; granted = masks.0 i; entitled = masks.1 i; late = there.late i })
    where
      left : List ℕ
      left = (with_line (answered_bytes reply bytes)).bytes

      shown : Response
      shown = record { number = 0; granted = granted_in left; entitled = entitled_in left; late = late_in left }

      masks : (granted_in left ≡ reply.granted) × (entitled_in left ≡ reply.entitled)
      masks = (
        ap number there.granted ∙ number_bytes_of 4 reply.granted r.granted,
        ap number there.entitled ∙ number_bytes_of 4 reply.entitled r.entitled,
      )

  refused_reply : eqb reply.number 0 ≡ false → reply_in (set bytes 3 reply.number) ≡ reply
  refused_reply e =
      ap (λ (n : ℕ). cond (eqb n 0) (shown n) (refused_with n)) (refused_number bytes h reply.number)
      ∙ ap (λ t. cond t (shown reply.number) (refused_with reply.number)) e
      ∙ sym (r.alone e)
    where
      left : List ℕ
      left = set bytes 3 reply.number

      shown : ℕ → Response
      shown n = record { number = 0; granted = granted_in left; entitled = entitled_in left; late = late_in left }

  -- What a command that was answered leaves.
  pub replied_whole : Whole (replied_block bytes reply).bytes
  replied_whole = go (eqb reply.number 0)
    where
      go : (t : Bool) → Whole (cond t (accepted_block bytes reply) (refused_block bytes reply)).bytes
      go true = accepted_whole
      go false = refused_whole bytes h reply.number

  pub replied_line : get_or bytes 28 0 ≡ line_of bytes → get_or (replied_block bytes reply).bytes 28 0
      ≡ line_of (replied_block bytes reply).bytes
  replied_line e = go (eqb reply.number 0)
    where
      go : (t : Bool) → get_or (cond t (accepted_block bytes reply) (refused_block bytes reply)).bytes 28 0
          ≡ line_of (cond t (accepted_block bytes reply) (refused_block bytes reply)).bytes
      go true = accepted_line
      go false = refused_line bytes h reply.number e

  pub replied_pending : (p : ℕ) → p < 32 → bit (pending_in (replied_block bytes reply).bytes) p
      ≡ (bit (pending_in bytes) p || bit reply.granted p)
  replied_pending p few = go (eqb reply.number 0) refl
    where
      go : (t : Bool) → eqb reply.number 0 ≡ t
          → bit (pending_in (cond t (accepted_block bytes reply) (refused_block bytes reply)).bytes) p
          ≡ (bit (pending_in bytes) p || bit reply.granted p)
      go true e = accepted_pending p few
      go false e =
          let none : bit reply.granted p ≡ false = ap (λ (a : Response). bit a.granted p) (r.alone e)
          ∙ bit_zero p in
          ap (λ (x : ℕ). bit x p) (refused_pending bytes h reply.number)
          ∙ sym (or-false (bit (pending_in bytes) p))
          ∙ ap (λ t. bit (pending_in bytes) p || t) (sym none)

  pub replied_reply : reply_in (replied_block bytes reply).bytes ≡ reply
  replied_reply = go (eqb reply.number 0) refl
    where
      go : (t : Bool) → eqb reply.number 0 ≡ t
          → reply_in (cond t (accepted_block bytes reply) (refused_block bytes reply)).bytes ≡ reply
      go true e = accepted_reply (eqb-true reply.number 0 e)
      go false e = refused_reply e
