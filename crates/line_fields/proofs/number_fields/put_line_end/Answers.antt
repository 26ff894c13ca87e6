-- `put_line_end` meets its contract: the field is stored if the line feed fits too, and then the line feed.
-- Assumes nothing.
use Prim.Native.Nat.{ℕ, ◌≤◌}
use native.Mathlib.Omega.{arith}
use mathlib.Core.Path.{refl}
use mathlib.Core.List.{List, [], ◌∷◌, ◌++◌, append_assoc}
use lib.ListN.{length, length-append}
use Rattle.digits.specs.Digits.{decimal}
use Rattle.digits.proofs.DecimalDigits.{some_digit}
use Rattle.digits.proofs.Placed.{one_stored}
use Rattle.digits.proofs.Begun.{nothing_placed, both_placed}
use Rattle.line_fields.specs.NumberFields.{labelled}
use Rattle.line_fields.proofs.number_fields.Words.{alone}
use Rattle.line_fields.proofs.number_fields.put_line_end.Goals as goal

some_byte : (word : List ℕ) (n : ℕ) → 1 ≤ length (labelled word n)
some_byte word n = simp length-append (omega (arith, some_digit n))

pub returns-then-size-eq0 : goal.returns-then-size-eq0
returns-then-size-eq0 c =
    let put = c in
    let a = put.args in
    let field = labelled a.word.now a.n in
    let both =
    alone (field ++ (10 ∷ [])) a.buffer.now a.at
    (nothing_placed field (10 ∷ []) a.buffer.now a.at 1 0 (some_byte a.word.now a.n) refl
    put.put_field-size.ensures.size put.put_field-size.ensures.bytes c.if-size-eq0.true) in
    record {
      size = rw (← append_assoc a.word.now (decimal a.n) (10 ∷ [])) both.0;
      bytes = rw (← append_assoc a.word.now (decimal a.n) (10 ∷ [])) both.1;
    }

pub returns : goal.returns
returns c =
    let put = c in
    let a = put.args in
    let field = labelled a.word.now a.n in
    let both =
    alone (field ++ (10 ∷ [])) a.buffer.now a.at
    (both_placed field (10 ∷ []) a.buffer.now a.at 1 0 (some_byte a.word.now a.n) refl
    put.put_field-size.ensures.size put.put_field-size.ensures.bytes c.if-size-eq0.false _ refl (one_stored _ _ 10)) in
    record {
      size = rw (← append_assoc a.word.now (decimal a.n) (10 ∷ [])) both.0;
      bytes = rw (← append_assoc a.word.now (decimal a.n) (10 ∷ [])) both.1;
    }
