use native.Mathlib.Omega.{arith}
use mathlib.Core.Path.{◌≡◌, sym, ◌∙◌}
use Rattle.plans.specs.Entries.{blank_entry}
use Rattle.plans.proofs.Sizes.{size_left, size_added}
use Rattle.plan_bytes.proofs.plan_writer.Stores.{section_turn, section_end}
use Rattle.plan_bytes.proofs.plan_writer.write_section.Goals as goal

pub overflow_add-at : goal.overflow_add-at
overflow_add-at c =
    omega (
      arith,
      c.loop-entry.invariant.1.0,
      size_left c.loop-entry.entry-index c.args.entries.now blank_entry c.loop-entry-test.true,
      c.entry_size-at.ensures,
      c.requires,
    )

pub loop-entry-preserved : goal.loop-entry-preserved
loop-entry-preserved c =
    let inv = c.loop-entry.invariant in (
      c.write_entry.auto.section ∙ inv.0,
      (
        size_added _ _ _ _ _ _ c.entry_size-at.ensures c.loop-entry-test.true inv.1.0,
        section_turn _ _ _ _ _ _ _ c.loop-entry-test.true c.entry_size-at.ensures (omega (arith, inv.1.0))
            c.write_entry.ensures
            ∙ inv.1.1,
      ),
    )

pub returns : goal.returns
returns c = sym (section_end _ _ _ _ c.loop-entry-test.false) ∙ c.loop-entry.invariant.1.1
