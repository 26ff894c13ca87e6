-- On every board and state, a mask of direct waits or of reach fits into the bytes that it is laid out in, two or four
-- depending on the plan's processors: read back, they give the mask. Assumes nothing.
use Prim.Native.Nat.{ℕ, ◌≤◌, ◌<◌, ◌^◌}
use mathlib.Core.Path.{◌≡◌, refl, sym, ◌∙◌}
use mathlib.Core.Bool.{Bool, true, false, cond}
use native.Mathlib.Omega.{arith}
use lib.Dec.{leb, ltb}
use borrow.Author.Tests.{leb-true, ltb-true}
use Rattle.masks.specs.Sets.{bit, mask_of}
use Rattle.masks.proofs.Masks.{mask_below, bit_mask}
use Rattle.masks.proofs.Equal.{below_by_places}
use Rattle.masks.proofs.Truth.{and_right, never_true}
use Rattle.encoding.specs.Numbers.{number, bytes_of}
use Rattle.encoding.proofs.Numbers.{number_bytes_of}
use Rattle.plans.specs.Entries.{max_processors}
use Rattle.rules.specs.declared.states.Board.{Board}
use Rattle.rules.specs.declared.states.State.{State}
use Rattle.queries.specs.Queries.{waits_for, Chain, direct, through, reaches, mask_size_of}
use Rattle.queries.proofs.Waits.{Counted, waits_counted}
use Rattle.queries.proofs.Chains.{reaches_chain}

module _ (b : Board) (s : State) where
  abbrev m : ℕ
  m = b.terms.processors

  chain_counted : (p q : ℕ) → Chain b s p q → Counted b s q
  chain_counted p q (direct e) = (waits_counted b s p q e).1
  chain_counted p q (through {r = r} e c) = chain_counted r q c

  counted_below_m : (q : ℕ) → Counted b s q → q < m
  counted_below_m q e = ltb-true q m (and_right (ltb q max_processors) (ltb q m) e)

  -- A set of processors that count.
  module _ (test : ℕ → Bool) (counted : (q : ℕ) → test q ≡ true → Counted b s q) where
    none_past_sixteen : m ≤ 16 → (k : ℕ) → 16 ≤ k → bit (mask_of max_processors test) k ≡ false
    none_past_sixteen few k past =
        never_true (bit (mask_of max_processors test) k)
        (λ e.
        let passes = and_right (ltb k max_processors) (test k) (sym (bit_mask max_processors test k) ∙ e) in
        omega (arith, counted_below_m k (counted k passes)))

    mask_fits : mask_of max_processors test < 256 ^ mask_size_of b
    mask_fits = go (leb m 16) refl
      where
        go : (t : Bool) → leb m 16 ≡ t → mask_of max_processors test < 256 ^ cond t 2 4
        go true e =
            below_by_places 16 (mask_of max_processors test) max_processors (mask_below max_processors test)
            (none_past_sixteen (leb-true m 16 e))
        go false e = mask_below max_processors test

    read_back : number (bytes_of (mask_size_of b) (mask_of max_processors test)) ≡ mask_of max_processors test
    read_back = number_bytes_of (mask_size_of b) (mask_of max_processors test) mask_fits

  pub waits_read_back : (p : ℕ)
      → number (bytes_of (mask_size_of b) (mask_of max_processors (waits_for b s p))) ≡ mask_of max_processors (waits_for b s p)
  waits_read_back p = read_back (waits_for b s p) (λ q e. (waits_counted b s p q e).1)

  pub reach_read_back : (p : ℕ)
      → number (bytes_of (mask_size_of b) (mask_of max_processors (reaches b s p))) ≡ mask_of max_processors (reaches b s p)
  reach_read_back p = read_back (reaches b s p) (λ q e. chain_counted p q (reaches_chain b s p q e))
