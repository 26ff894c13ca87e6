-- `write_section` meets its contract. The invariant: storing the entries that are left from here on gives the whole
-- section. Assumes nothing.
use Prim.Native.Nat.{◌+◌}
use mathlib.Core.Path.{◌≡◌}
use lib.ListN.{length, drop}
use lib.Seq.{sets}
use Rattle.plans.specs.Entries.{section_size}
use Rattle.plans.specs.Writing.{section_bytes}
use Rattle.plan_bytes.proofs.plan_writer.write_section.Given as goal

abbrev pub invariant-loop-entry : goal.invariant-loop-entry
invariant-loop-entry l =
    (length l.section ≡ length l.initial.section)
    × ((l.at + section_size (drop l.entry-index l.entries) ≡ section_size l.entries)
    × (sets l.section l.at (section_bytes (drop l.entry-index l.entries))
    ≡ sets l.initial.section 0 (section_bytes l.entries)))
