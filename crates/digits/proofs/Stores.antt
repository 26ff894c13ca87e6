-- A copy into a part of a list is a run of stores; and of two runs of stores, the later one can come first.
-- Assumes nothing.
use Prim.Native.Nat.{ℕ, suc, ◌+◌, ◌≤◌, ◌<◌}
use native.Mathlib.Omega.{arith}
use mathlib.Core.Path.{◌≡◌, refl, ◌∙◌}
use mathlib.Core.List.{List, [], ◌∷◌, ◌++◌, append_assoc}
use lib.ListN.{length, take, drop, set}
use lib.Seq.{sets, sets-eq, set_comm, drop-drop}
use borrow.Rule.Slice.PartMut.{put_mid}

-- What is copied into a part of its length is stored from the start of the part on.
pub part_copied : (l vs : List ℕ) (a k : ℕ) → k ≡ length vs → a + length vs ≤ length l → put_mid a k l vs ≡ sets l a vs
part_copied l vs a k e h = rw (sets-eq vs l a h, append_assoc (take a l) vs (drop (a + length vs) l), e, drop-drop)

set_before : (l : List ℕ) (i j : ℕ) (y : ℕ) (xs : List ℕ) → i < j → set (sets l j xs) i y ≡ sets (set l i y) j xs
set_before l i j y [] h = refl
set_before l i j y (x ∷ xs) h =
    set_before (set l j x) i (suc j) y xs (omega arith) ∙ rw (set_comm l j i x y (λ e. omega arith)) refl

-- What is stored last is at the end, so it can be stored first.
pub last_first : (l : List ℕ) (i : ℕ) (a xs : List ℕ) → sets (sets l (i + length a) xs) i a ≡ sets l i (a ++ xs)
last_first l i [] xs = let e : i + 0 ≡ i = omega arith in rw e
last_first l i (y ∷ a) xs =
    let e : i + suc (length a) ≡ suc i + length a = omega arith in
    rw (e, set_before l i (suc i + length a) y xs (omega arith)) (last_first (set l i y) (suc i) a xs)
