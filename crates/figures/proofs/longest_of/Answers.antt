use native.Mathlib.Omega.{arith}
use mathlib.Core.Path.{◌≡◌, sym, ◌∙◌}
use borrow.Author.Rules.{rules}
use Rattle.figures.proofs.Longest.{larger, best_of_all, best_with_asked, best_without}
use Rattle.figures.proofs.longest_of.Goals as goal
use Rattle.figures.proofs.longest_of.Goals.{then-is_asked, else-is_asked}

pub loop-entry-preserved : goal.loop-entry-preserved
loop-entry-preserved g c =
    elim c.if-is_asked.branch [
      | then-is_asked w ↦ rw (w.best-is, w.max-best.ensures, larger) (
        search rules,
        λ asked is.
            c.loop-entry.invariant.1 asked is
            ∙ best_with_asked asked _ _ _ _ c.loop-entry-test.true (sym (is _ _ c.is_asked.ensures) ∙ w.if-is_asked.true),
      )
      | else-is_asked w ↦ rw w.best-is (
        c.loop-entry.invariant.0,
        λ asked is.
            c.loop-entry.invariant.1 asked is
            ∙ best_without asked _ _ _ _ c.loop-entry-test.true (sym (is _ _ c.is_asked.ensures) ∙ w.if-is_asked.false),
      )
    ]

pub returns-clause-is : goal.returns-clause-is
returns-clause-is g c asked is =
    sym (c.loop-entry.invariant.1 asked is ∙ best_of_all _ _ _ _ c.loop-entry-test.false)
