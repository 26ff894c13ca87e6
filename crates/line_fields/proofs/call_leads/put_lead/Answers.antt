-- `put_lead` meets its contract: the tick is stored if the whole line has room, and then the rest of the lead.
-- Assumes nothing.
use Prim.Native.Nat.{ℕ, ◌+◌}
use native.Mathlib.Omega.{arith}
use mathlib.Core.Path.{◌≡◌, refl}
use mathlib.Core.List.{◌∷◌}
use lib.ListN.{length}
use Rattle.digits.specs.Digits.{decimal}
use Rattle.digits.proofs.DecimalDigits.{some_digit}
use Rattle.digits.proofs.Begun.{nothing_placed, both_placed}
use Rattle.line_fields.proofs.call_leads.put_lead.Goals as goal

rest-size : (processor width more : ℕ) → width ≡ length (decimal processor) → (letter : ℕ)
    → 3 + width + more ≡ length (32 ∷ letter ∷ 32 ∷ decimal processor) + more
rest-size processor width more e letter = omega arith

pub returns-then-ticks-eq0 : goal.returns-then-ticks-eq0
returns-then-ticks-eq0 c =
    let put = c in
    let a = put.args in
    let both = nothing_placed (decimal a.lead.tick) (32 ∷ a.lead.letter ∷ 32 ∷ decimal a.lead.processor) a.buffer.now a.at _
    a.more (some_digit a.lead.tick)
    (rest-size a.lead.processor _ a.more put.byte_digits-rest.ensures.is a.lead.letter)
    put.put_decimal-ticks.ensures.size put.put_decimal-ticks.ensures.bytes c.if-ticks-eq0.true in
    record { size = both.0; bytes = both.1 }

pub returns : goal.returns
returns c =
    let put = c in
    let a = put.args in
    let both = both_placed (decimal a.lead.tick) (32 ∷ a.lead.letter ∷ 32 ∷ decimal a.lead.processor) a.buffer.now a.at _ a.more
    (some_digit a.lead.tick)
    (rest-size a.lead.processor _ a.more put.byte_digits-rest.ensures.is a.lead.letter)
    put.put_decimal-ticks.ensures.size put.put_decimal-ticks.ensures.bytes c.if-ticks-eq0.false
    _ (omega (arith, put.byte_digits-rest.ensures.is))
    (record { place = refl; stores = c.write_letter.ensures }) in
    record { size = both.0; bytes = both.1 }
