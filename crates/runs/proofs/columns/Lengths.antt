-- Holders of the group that keep to their lengths hold at most Lr ticks as reads and Lw as writes. Assumes nothing.
use Prim.Native.Nat.{ℕ, ◌<◌, ◌≤◌, ◌+◌}
use native.Mathlib.Omega.{arith}
use mathlib.Core.Path.{◌≡◌}
use mathlib.Core.Bool.{true, false}
use Rattle.runs.proofs.columns.Columns.{Phase, idle, holding, Requests, Kept}
use Rattle.runs.proofs.columns.Phases.{is_active_law}

-- The active requests of the group have lengths of at most Lr as reads and Lw as writes.
pub record Lengths (n Lr Lw : ℕ) (R : Requests) (ph : ℕ → Phase) (len : ℕ → ℕ) : Type 0 where
  pub of_reads : (i : ℕ) → i < n → R.group i ≡ true → (ph i ≡ idle → ⊥) → R.write i ≡ false → len i ≤ Lr
  pub of_writes : (i : ℕ) → i < n → R.group i ≡ true → (ph i ≡ idle → ⊥) → R.write i ≡ true → len i ≤ Lw

-- Up to tick t every holder of the group keeps to its length, and lengths are bounded.
pub record Prompt (n t Lr Lw : ℕ) (R : Requests) (ph : ℕ → Phase) (si len : ℕ → ℕ) : Type 0 where
  pub kept : Kept n R ph si len t
  pub lengths : Lengths n Lr Lw R ph len

module _ {n t Lr Lw : ℕ} {R : Requests} {ph : ℕ → Phase} {si len : ℕ → ℕ} (prompt : Prompt n t Lr Lw R ph si len) where
  pub read_holds_at_most : (q : ℕ) → q < n → R.group q ≡ true → R.write q ≡ false → ph q ≡ holding → t ≤ si q + Lr
  read_holds_at_most q l g r h = omega (arith, prompt.kept q l g h, prompt.lengths.of_reads q l g (is_active_law h tt) r)

  pub write_holds_at_most : (f : ℕ) → f < n → R.group f ≡ true → R.write f ≡ true → ph f ≡ holding → t ≤ si f + Lw
  write_holds_at_most f l g w h = omega (
    arith,
    prompt.kept f l g h,
    prompt.lengths.of_writes f l g
        (is_active_law h tt) w,
  )
