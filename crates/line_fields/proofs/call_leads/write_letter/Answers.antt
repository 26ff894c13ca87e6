-- `write_letter` meets its contract: a letter between spaces, then the processor. Assumes nothing.
use Prim.Native.Nat.{ℕ, suc, ◌+◌, ◌≤◌}
use native.Mathlib.Omega.{arith}
use mathlib.Core.Path.{◌≡◌, refl}
use mathlib.Core.List.{List, [], ◌∷◌}
use lib.ListN.{length, set}
use Rattle.digits.specs.Digits.{decimal}
use Rattle.digits.specs.Placed.{placed_size, placed_buffer}
use Rattle.digits.specs.inner.Stored.{Stored}
use Rattle.digits.proofs.Placed.{then_stored, stored_length, placed_stored}
use Rattle.line_fields.proofs.call_leads.write_letter.Goals as goal

three : (l : List ℕ) (at x y z : ℕ) → Stored (x ∷ y ∷ z ∷ []) l at (at + 3)
    (set (set (set l at x) (at + 1) y) (at + 2) z)
three l at x y z =
    let one : at + 1 ≡ suc at = omega arith in
    let two : at + 2 ≡ suc (suc at) = omega arith in
    record { place = refl; stores = rw (one, two) refl }

letter-stored : (letter processor at : ℕ) (l : List ℕ) → at + 3 + length (decimal processor) ≤ length l
    → {told : ℕ} {after : List ℕ}
    → (told ≡ placed_size (length (decimal processor) + 0) (decimal processor)
    (length (set (set (set l at 32) (at + 1) letter) (at + 2) 32)) (at + 3))
    × (after ≡ placed_buffer (length (decimal processor) + 0) (decimal processor)
    (set (set (set l at 32) (at + 1) letter) (at + 2) 32) (at + 3))
    → Stored (32 ∷ letter ∷ 32 ∷ decimal processor) l at (at + 3 + told) after
letter-stored letter processor at l fits both =
    then_stored (three l at 32 letter 32)
    (placed_stored (decimal processor) _ (at + 3) (length (decimal processor) + 0) (omega arith)
    (omega (arith, stored_length (three l at 32 letter 32))) both.0 both.1)

pub returns : goal.returns
returns c =
    let put = c in
    let a = put.args in
    (letter-stored a.letter a.processor a.at a.buffer.now (omega arith)
    (put.put_decimal.ensures.size, put.put_decimal.ensures.bytes)).stores
