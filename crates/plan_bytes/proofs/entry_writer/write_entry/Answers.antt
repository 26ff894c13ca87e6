-- `write_entry` meets its contract: with room it stores the entry's bytes, and without room it stores nothing. Assumes
-- nothing.
use mathlib.Core.Path.{sym, ◌∙◌}
use native.Mathlib.Omega.{arith}
use Rattle.encoding.proofs.Room.{with_room}
use Rattle.plans.specs.Entries.{entry_size_of}
use Rattle.plans.specs.Writing.{entry_bytes}
use Rattle.plans.proofs.Sizes.{sized_least}
use Rattle.plans.proofs.EntryBytes.{length_entry_bytes}
use Rattle.plan_bytes.proofs.entry_writer.Stores.{entry_written}
use Rattle.plan_bytes.proofs.entry_writer.write_entry.Goals as goal

pub bounds-section-at : goal.bounds-section-at
bounds-section-at c =
    let least = sized_least _ _ c.entry_size.ensures in
    omega (arith, least, c.has_room.ensures.room c.if-has_room.true)

pub returns-then-has_room : goal.returns-then-has_room
returns-then-has_room c =
    let a = c.args in
    let room = c.has_room.ensures in
    let sized = c.entry_size.ensures in
    (with_room (entry_size_of a.entry) a.at a.section.now (entry_bytes a.entry) (length_entry_bytes a.entry)
    (rw (← sized) (sym room.is ∙ c.if-has_room.true)) _
    (entry_written a.section.now a.at a.entry _ _
    (omega (arith, room.room c.if-has_room.true, sized_least _ _ sized))
    c.write_number.ensures.bytes c.write_number-then-has_room.ensures.bytes)).1
