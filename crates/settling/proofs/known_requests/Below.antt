-- The processors whose entries are below a count, if all entries are below. Assumes nothing.
use mathlib.Core.Path.{◌≡◌, sym, ap, ◌∙◌}
use mathlib.Core.Bool.{Bool, ◌&&◌, and-true}
use Prim.Native.Nat.{ℕ, ◌-◌, ◌^◌, ◌<◌, ◌≤◌}
use native.Mathlib.Omega.{arith}
use lib.Dec.{ltb}
use borrow.Author.Tests.{lt-ltb}
use Rattle.masks.specs.Sets.{bit, mask_of}
use Rattle.masks.proofs.Masks.{mask_agree}
use Rattle.masks.proofs.Tests.{all_is, own_is, agree_is, bit_is}
use Rattle.plans.specs.Entries.{max_processors}

-- If the largest entry is below the count, all are.
module _ (f : ℕ → ℕ) (most count : ℕ) (bound : (k : ℕ) → k < max_processors → f k ≤ most) (below : most < count) where
  pub among_below : (among : ℕ) → among < 2 ^ max_processors
      → among ≡ mask_of max_processors (λ k. bit among k && ltb (f k) count)
  among_below among small =
      (agree_is (λ k l. sym (ap (λ t. bit among k && t) (lt-ltb (f k) count (omega (arith, bound k l)))
      ∙ and-true (bit among k)))
      (own_is max_processors among small)).is

-- Those of all the processors.
pub of_all : (P : ℕ → Bool) → mask_of max_processors (λ k. bit (2 ^ max_processors - 1) k && P k) ≡ mask_of max_processors P
of_all P = mask_agree max_processors _ _ (λ k l. ap (λ t. t && P k) (bit_is (all_is max_processors) k l))
