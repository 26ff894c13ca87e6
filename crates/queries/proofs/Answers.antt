-- What follows when the checks of a query accept it, and the direct waits of a processor that counts. Assumes nothing.
use Prim.Native.Nat.{ℕ, ◌<◌}
use mathlib.Core.Path.{◌≡◌, ap, ◌∙◌}
use mathlib.Core.List.{List}
use lib.Dec.{ltb, lit<}
use borrow.Author.Tests.{ltb-true, lt-ltb}
use Rattle.masks.specs.Sets.{mask_of}
use Rattle.masks.proofs.Truth.{and_left}
use Rattle.refusals.proofs.Numbers.{due_accepted}
use Rattle.plans.specs.Entries.{max_processors}
use Rattle.masks.specs.Tabulation.{tabulate}
use Rattle.rules.specs.declared.states.Phases.{Phases}
use Rattle.rules.specs.declared.states.Terms.{Terms}
use Rattle.rules.specs.declared.states.Board.{Board}
use Rattle.rules.specs.declared.states.State.{State}
use Rattle.rules.specs.CountedRequests.{has_processor}
use Rattle.rules.specs.Faults.{processor_fault}
use Rattle.rules.specs.Calls.{facts_of, phases_of}
use Rattle.waits.specs.Waits.{waits_in, waits_of}
use Rattle.queries.specs.Queries.{waits_for}
use Rattle.queries.specs.inner.Rows.{direct_rows}

-- ---- an accepted query

pub processor_below : (terms : Terms) (p : ℕ) → processor_fault terms p ≡ 0 → p < max_processors
processor_below terms p e =
    ltb-true p max_processors (and_left (ltb p max_processors) (ltb p terms.processors)
    (due_accepted (has_processor terms p) 11 (lit< tt) e))

-- ---- direct waits with the phases of the requests that count

module _ (b : Board) (s : State) (ph : Phases) (counted : ph ≡ phases_of b s) where
  pub waits_counted : (p r : ℕ) → p < max_processors → r ≡ waits_of (facts_of b s) ph p → r
      ≡ mask_of max_processors (waits_for b s p)
  unfolding waits_for
  waits_counted p r below e = rw (counted, lt-ltb p max_processors below) at e

  pub rows_counted : (rows : List ℕ) → rows
      ≡ tabulate max_processors (λ p. mask_of max_processors (waits_in (facts_of b s) ph p)) → rows ≡ direct_rows b s
  unfolding waits_for
  rows_counted rows e = e ∙ ap (λ x. tabulate max_processors (λ p. mask_of max_processors (waits_in (facts_of b s) x p)))
      counted
