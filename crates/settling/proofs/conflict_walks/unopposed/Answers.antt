-- `unopposed` meets its contract: without others nobody is opposed, and a row meets the set of the others' entries
-- exactly if it contains one of them. Assumes nothing.
use mathlib.Core.Path.{◌≡◌, sym, ap, ◌∙◌}
use mathlib.Core.Bool.{not, ◌&&◌, and-true}
use Prim.Native.Nat.{ℕ, ◌^◌, ◌<◌}
use lib.ListN.{get_or}
use borrow.Author.Rules.{rules}
use Rattle.masks.specs.Sets.{bit, some, meets, mask_of}
use Rattle.masks.proofs.Masks.{is_mask, mask_agree}
use Rattle.masks.proofs.Walks.{none_kept, some_last}
use Rattle.plans.specs.Entries.{max_processors}
use Rattle.rules.specs.Requests.{Facts, entry_of, conflicts}
use Rattle.rules.specs.InPlace.{facts_lent}
use Rattle.rules.specs.inner.Moves.{unopposed_in}
use Rattle.rules.proofs.Known.{known_kept}
use Rattle.settling.proofs.conflict_walks.unopposed.Goals as goal

module _ (f : Facts) (candidates others : ℕ) where
  no-others : candidates < 2 ^ max_processors → others ≡ 0 → candidates ≡ unopposed_in f candidates others
  no-others h none =
      is_mask max_processors candidates _ h
      (λ p l. sym (ap (λ t. bit candidates p && not t) (some_last max_processors (conflicts f p) others none)
      ∙ and-true (bit candidates p)))

  clear-of-others : (set r : ℕ) → ((row : ℕ) → meets row set
      ≡ some max_processors (λ q. bit others q && bit row (entry_of f q)))
      → r ≡ mask_of max_processors (λ p. bit candidates p && not (meets (get_or f.rows (entry_of f p) 0) set)) → r
      ≡ unopposed_in f candidates others
  clear-of-others set r has e =
      e ∙ mask_agree max_processors _ _ (λ p l. ap (λ t. bit candidates p && not t)
      (has (get_or f.rows (entry_of f p) 0)))

pub returns-then-candidates-eq0 : goal.returns-then-candidates-eq0
returns-then-candidates-eq0 c =
    let kept = none_kept max_processors _ _ c.if-candidates-eq0.true in
    record { those = kept; known = known_kept _ c.requires.0 kept }

pub returns-then-others-eq0 : goal.returns-then-others-eq0
returns-then-others-eq0 c =
    record {
      those = no-others (facts_lent c.args.facts) _ _ c.ranges.candidates.fits c.if-others-eq0.true;
      known = c.requires.0;
    }

pub returns : goal.returns
returns c =
    let kept = clear-of-others (facts_lent c.args.facts) _ _ _ _ c.entries_of-set.ensures
    (c.those.ensures _ (λ p r l h e. search rules)) in
    record { those = kept; known = known_kept _ c.requires.0 kept }
