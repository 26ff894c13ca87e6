-- `write_figures` meets its contract. Assumes nothing.
use native.Mathlib.Omega.{arith}
use Rattle.digits.proofs.Placed.{three_stored}
use Rattle.listings.proofs.first_lines.Parts.{entries_field, read_field, write_field, figures_parts, figures_length}
use Rattle.listings.proofs.first_lines.write_figures.Goals as goal

pub returns : goal.returns
returns c =
    let a =
    c.args in
    let first = c in
    let second = c in
    rw (figures_parts a.numbers.count a.numbers.read a.numbers.write)
    (three_stored (entries_field a.numbers.count) (read_field a.numbers.read) (write_field a.numbers.write) a.buffer.now a.at
    (omega (
      arith,
      figures_length a.numbers.count a.numbers.read
          a.numbers.write,
      c.requires,
    )) first.put_labelled.ensures.size first.put_labelled.ensures.bytes second.put_labelled-2.ensures.size
    second.put_labelled-2.ensures.bytes
    c.put_line_end.ensures.size c.put_line_end.ensures.bytes)
