use mathlib.Core.Path.{◌≡◌, sym, ap, ◌∙◌}
use native.Mathlib.Omega.{arith}
use borrow.Author.Rules.{rules}
use lib.ListN.{length, drop_of_length-le}
use Rattle.refusals.specs.Number.{verdict_number, number_of}
use Rattle.plans.specs.Acceptance.{entries_fault}
use Rattle.plan_checks.proofs.acceptance.Entries.{faultless_passed, first_fault}
use Rattle.plan_checks.proofs.acceptance.check_entries.Goals as goal

pub loop-entry-preserved : goal.loop-entry-preserved
loop-entry-preserved c =
    c.loop-entry.invariant ∙ faultless_passed _ _ _ _ c.loop-entry-test.true _ c.check_entry.ensures (search rules)

pub returns-in_err-check_entry : goal.returns-in_err-check_entry
returns-in_err-check_entry c =
    let gives : verdict_number c.from_residual.result ≡ number_of c.in_err-check_entry.field-0.0 = search rules in
    gives ∙ sym (c.loop-entry.invariant ∙ first_fault _ _ _ _ c.loop-entry-test.true _ c.check_entry.ensures c.in_err-check_entry.field-0.0 (search rules))

pub returns : goal.returns
unfolding entries_fault
returns c =
    sym (c.loop-entry.invariant ∙ ap (entries_fault _) (drop_of_length-le _ {i = c.loop-entry.entry-index} (omega (arith, c.loop-entry-test.false))))
