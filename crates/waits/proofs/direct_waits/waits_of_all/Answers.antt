-- `waits_of_all` meets its contract: the candidates of the two walks are those that wait or are entitled, and the others
-- wait for nobody. Assumes nothing.
use mathlib.Core.Path.{◌≡◌, refl, sym, ◌∙◌}
use mathlib.Core.Bool.{Bool, true, false, cond, not, ◌&&◌, false≢true}
use mathlib.Core.List.{List}
use Prim.Native.Nat.{ℕ, ◌^◌, ◌<◌}
use lib.Bits.{bit_and}
use lib.ListN.{get_or, replicate, get_or-replicate}
use borrow.Author.Rules.{rules}
use Rattle.masks.specs.Sets.{bit, without}
use Rattle.masks.specs.Tabulation.{tabulate}
use Rattle.masks.proofs.Truth.{and_right}
use Rattle.masks.proofs.Places.{bit_and_law, bit_without, or_below}
use Rattle.masks.proofs.Tabulate.{get_d_tabulate, tabulate_agree}
use Rattle.plans.specs.Entries.{max_processors}
use Rattle.waits.proofs.direct_waits.Cases.{waits_for_none}
use Rattle.waits.proofs.direct_waits.waits_of_all.Goals as goal

-- Which of the candidates are writers.
not-writer : (u t : Bool) → (u && not t) ≡ true → false ≡ t
not-writer u false e = refl
not-writer u true e = absurd (false≢true (and_right u false e))

module _ (unsatisfied writers : ℕ) (hu : unsatisfied < 2 ^ 32) (hw : writers < 2 ^ 32) where
  readers-alike : (p : ℕ) → bit (without 32 unsatisfied writers) p ≡ true → false ≡ bit writers p
  readers-alike p e =
      not-writer (bit unsatisfied p) (bit writers p) (sym (bit_without 32 unsatisfied writers p hu hw) ∙ e)

  writers-alike : (p : ℕ) → bit (bit_and unsatisfied writers) p ≡ true → true ≡ bit writers p
  writers-alike p e =
      sym (and_right (bit unsatisfied p) (bit writers p) (sym (bit_and_law unsatisfied writers p) ∙ e))

  -- The two walks, one after the other.
  module _ (f : ℕ → ℕ) (none reads out : List ℕ) (zeros : (p : ℕ) → p < max_processors → get_or none p 0 ≡ 0)
      (satisfied : (p : ℕ) → bit unsatisfied p ≡ false → 0 ≡ f p)
      (first : reads ≡ tabulate max_processors (λ p. cond (bit (without 32 unsatisfied writers) p) (f p) (get_or none p 0)))
      (second : out ≡ tabulate max_processors (λ p. cond (bit (bit_and unsatisfied writers) p) (f p) (get_or reads p 0)))
    where
      at : (p : ℕ) → p < max_processors → (u t : Bool) → bit unsatisfied p ≡ u
          → cond (u && t) (f p) (cond (u && not t) (f p) (get_or none p 0)) ≡ f p
      at p l true true e = refl
      at p l true false e = refl
      at p l false t e = zeros p l ∙ satisfied p e

      whole : out ≡ tabulate max_processors f
      whole =
          second
          ∙ tabulate_agree max_processors _ f
          (λ p l. rw (
            first,
            get_d_tabulate max_processors (λ k. cond (bit (without 32 unsatisfied writers) k) (f k) (get_or none k 0)) p 0 l,
            bit_and_law unsatisfied writers p,
            bit_without 32 unsatisfied writers p hu hw,
          )
          (at p l (bit unsatisfied p) (bit writers p) refl))

pub store_waits-requires-clause-alike : goal.store_waits-requires-clause-alike
store_waits-requires-clause-alike c = readers-alike _ _ (search (or_below, rules)) (search rules)

pub store_waits-requires-2-clause-alike : goal.store_waits-requires-2-clause-alike
store_waits-requires-2-clause-alike c = writers-alike _ _ (search (or_below, rules)) (search rules)

pub returns : goal.returns
returns c =
    whole _ _ (search (or_below, rules)) (search rules) _ (replicate max_processors 0) _ _
    (λ p l. get_or-replicate max_processors p 0 0 l)
    (waits_for_none _ c.args.phases)
    c.store_waits.ensures c.store_waits-2.ensures
