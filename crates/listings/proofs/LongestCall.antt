-- How long lines can be. If a mask has n bytes, a call's line has at most 67 + 4 n bytes whatever the numbers, 33 + 4 n
-- for numbers of the Rattle types, and 24 + 4 n in a replay, where ticks are below 2 ^ 40 and late is 0 or 1. So it has
-- at most 83, 49 and 40, and 8 less for up to 16 processors. The line of a refusal of the table has at most 11.
-- Assumes nothing.
use Prim.Native.Nat.{ℕ, suc, ◌+◌, ◌*◌, ◌^◌, ◌≤◌, ◌<◌}
use native.Mathlib.Omega.{arith}
use mathlib.Core.Path.{◌≡◌}
use mathlib.Core.Bool.{Bool, true, false, cond}
use mathlib.Core.List.{[], ◌∷◌}
use lib.Dec.{eqb}
use lib.ListN.{length}
use Rattle.plans.specs.Entries.{mask_size_for}
use Rattle.rules.specs.declared.calls.Call.{Call}
use Rattle.rules.specs.CallNumbers.{call_as_numbers}
use Rattle.rules.specs.Replies.{Response}
use Rattle.digits.specs.Digits.{decimal, hex_mask}
use Rattle.listings.specs.PlainLines.{refused_word, further_fields, refusal_line}
use Rattle.listings.specs.Lines.{reply_fields, letter_of, call_line}
use Rattle.digits.proofs.DecimalDigits.{few_digits, most_digits}
use Rattle.line_fields.proofs.MaskLengths.{least_bytes, most_bytes, length_hex}
use Rattle.listings.proofs.lines.Lengths.{done_length, refused_length, length_fields, length_refusal}

-- The fields of a reply take at most 4 + 4 n + k bytes if late has at most k digits and the refusal number at most 2 +
-- k.
reply_most : (n : ℕ) → 2 ≤ n → (reply : Response) (k : ℕ) → length (decimal reply.number) ≤ 2 + k
    → length (decimal reply.late) ≤ k
    → length (further_fields (reply_fields (hex_mask n) reply)) ≤ 4 + 4 * n + k
reply_most n two reply k number late = go (eqb reply.number 0)
  where
    go : (b : Bool)
        → length (further_fields (cond b (hex_mask n reply.granted ∷ hex_mask n reply.entitled
        ∷ decimal reply.late ∷ []) (refused_word ∷ decimal reply.number ∷ [])))
        ≤ 4 + 4 * n + k
    go true = omega (arith, done_length (hex_mask n) n (length_hex n) reply.granted reply.entitled reply.late)
    go false = omega (arith, refused_length reply.number)

call_length : (m : ℕ) (c : Call) (reply : Response)
    → length (call_line m c reply)
    ≡ length (decimal (call_as_numbers c).tick) + 3 + length (decimal (call_as_numbers c).processor) + length
    (further_fields (reply_fields (hex_mask (mask_size_for m)) reply))
unfolding call_line
call_length m c reply =
    length_fields (letter_of c) (call_as_numbers c).processor (call_as_numbers c).tick
    (reply_fields (hex_mask (mask_size_for m)) reply)

pub any_call : (m : ℕ) (c : Call) (reply : Response) → length (call_line m c reply) ≤ 67 + 4 * mask_size_for m
any_call m c reply =
    let number : length (decimal reply.number) ≤ 2 + 20 = omega (arith, few_digits reply.number) in
    omega (
      arith,
      call_length m c reply,
      few_digits (call_as_numbers c).tick,
      few_digits (call_as_numbers c).processor,
      reply_most (mask_size_for m) (least_bytes m) reply 20 number (few_digits reply.late),
    )

-- For any plan.
pub any_plans_call : (m : ℕ) (c : Call) (reply : Response) → length (call_line m c reply) ≤ 83
any_plans_call m c reply = omega (arith, any_call m c reply, most_bytes m)

pub any_refusal : (n : ℕ) → length (refusal_line n) ≤ 29
any_refusal n = omega (arith, length_refusal n, few_digits n)

pub longest_refusal : (n : ℕ) → n < 10 ^ 2 → length (refusal_line n) ≤ 11
longest_refusal n h = omega (arith, length_refusal n, most_digits 1 n h)

module _ (m : ℕ) (c : Call) (reply : Response) (processor : (call_as_numbers c).processor < 2 ^ 8)
    (number : reply.number < 10 ^ 2) where
  call_most : (j k : ℕ) → (call_as_numbers c).tick < 10 ^ suc j → reply.late < 10 ^ suc k
      → length (call_line m c reply) ≤ suc j + (suc k + 10) + 4 * mask_size_for m
  call_most j k tick late =
      let small : (call_as_numbers c).processor < 10 ^ 3 = omega arith in
      let two : length (decimal reply.number) ≤ 2 + suc k = omega (arith, most_digits 1 reply.number number) in
      omega (
        arith,
        call_length m c reply,
        most_digits j (call_as_numbers c).tick tick,
        most_digits 2 (call_as_numbers c).processor small,
        reply_most (mask_size_for m) (least_bytes m) reply (suc k) two (most_digits k reply.late late),
      )

  pub longest_call : (call_as_numbers c).tick < 2 ^ 64 → reply.late < 2 ^ 8
      → length (call_line m c reply) ≤ 33 + 4 * mask_size_for m
  longest_call tick late =
      let t : (call_as_numbers c).tick < 10 ^ 20 = omega arith in
      let l : reply.late < 10 ^ 3 = omega arith in
      omega (arith, call_most 19 2 t l)

  pub longest_replayed : (call_as_numbers c).tick < 2 ^ 40 → reply.late ≤ 1
      → length (call_line m c reply) ≤ 24 + 4 * mask_size_for m
  longest_replayed tick late =
      let t : (call_as_numbers c).tick < 10 ^ 13 = omega arith in
      let l : reply.late < 10 ^ 1 = omega arith in
      omega (arith, call_most 12 0 t l)
