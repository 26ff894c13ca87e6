-- `numbers_line` meets its contract: the line is stored if it fits. Assumes nothing.
use mathlib.Core.Path.{refl}
use Rattle.listings.specs.PlainLines.{numbers_line}
use Rattle.listings.proofs.first_lines.Parts.{first_size_is}
use Rattle.listings.proofs.Room.{no_room, room}
use Rattle.listings.proofs.first_lines.numbers_line.Goals as goal

pub returns-then-has_room : goal.returns-then-has_room
returns-then-has_room c =
    let asked = c in
    let a = asked.args in
    let both = room (numbers_line a.numbers.processors a.numbers.resources a.numbers.count a.numbers.read a.numbers.write) a.buffer.now a.at _ _
    (first_size_is a.numbers.processors a.numbers.resources a.numbers.count a.numbers.read a.numbers.write _
    asked.first_size-needed.ensures.is)
    asked.has_room.ensures.is _ _ c.if-has_room.true
    (record { place = refl; stores = c.write_first.ensures }) in
    record { outcome = both.0; bytes = both.1 }

pub returns-else-has_room : goal.returns-else-has_room
returns-else-has_room c =
    let a = c.args in
    let both = no_room (numbers_line a.numbers.processors a.numbers.resources a.numbers.count a.numbers.read a.numbers.write) a.buffer.now a.at _ _
    (first_size_is a.numbers.processors a.numbers.resources a.numbers.count a.numbers.read a.numbers.write _
    c.first_size-needed.ensures.is)
    c.has_room.ensures.is c.if-has_room.false in
    record { outcome = both.0; bytes = both.1 }
