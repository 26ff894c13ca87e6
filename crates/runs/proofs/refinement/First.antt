-- What stops a read depends only on the phases of the writes, and step 1 does not change them. Assumes nothing.
use Prim.Native.Nat.{ℕ, ◌<◌}
use mathlib.Core.Path.{◌≡◌, ◌∙◌}
use mathlib.Core.Bool.{true}
use mathlib.Core.Logic.{◌⊎◌, inl, inr}
use Rattle.runs.proofs.columns.Columns.{Phase, entitled, holding, Requests, Exists, In}

-- The same request that conflicts with i's, seen in other phases.
in_phases : {R : Requests} {ph ph' : ℕ → Phase} {a : Phase} {i j : ℕ} → ph' j ≡ ph j → In R ph a true i j
    → In R ph' a true i j
in_phases e x = record { phase_is = e ∙ x.phase_is; write_is = x.write_is; conflict = x.conflict }

-- The writes are in the same phases.
abbrev pub SameWrites : ℕ → Requests → (ℕ → Phase) → (ℕ → Phase) → Type 0
SameWrites n R ph ph' = (j : ℕ) → j < n → R.write j ≡ true → ph' j ≡ ph j

pub exists_in : {n : ℕ} {R : Requests} {ph ph' : ℕ → Phase} {a : Phase} {i : ℕ} → SameWrites n R ph ph'
    → Exists n (In R ph a true i) → Exists n (In R ph' a true i)
exists_in same (j, l, x) = (j, l, in_phases (same j l x.write_is) x)

-- A write that is entitled or holds conflicts with i's request.
abbrev pub Stopped : ℕ → Requests → (ℕ → Phase) → ℕ → Type 0
Stopped n R ph i = Exists n (In R ph holding true i) ⊎ Exists n (In R ph entitled true i)

pub stopped_after : {n : ℕ} {R : Requests} {ph ph₁ : ℕ → Phase} {i : ℕ} → SameWrites n R ph ph₁ → Stopped n R ph i
    → Stopped n R ph₁ i
stopped_after same (inl x) = inl (exists_in same x)
stopped_after same (inr x) = inr (exists_in same x)
