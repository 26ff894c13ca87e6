-- `write_first` meets its contract. Assumes nothing.
use native.Mathlib.Omega.{arith}
use Rattle.digits.proofs.Placed.{then_third}
use Rattle.listings.proofs.first_lines.Parts.{processors_field, resources_field, figures_part, first_parts}
use Rattle.listings.proofs.first_lines.Parts.{first_length}
use Rattle.listings.proofs.first_lines.write_first.Goals as goal

pub returns : goal.returns
returns c =
    let a =
    c.args in
    let first = c in
    let second = c in
    rw (first_parts a.numbers.processors a.numbers.resources a.numbers.count a.numbers.read a.numbers.write)
    (then_third (processors_field a.numbers.processors) (resources_field a.numbers.resources)
    (figures_part a.numbers.count a.numbers.read a.numbers.write) a.buffer.now a.at
    (omega (
      arith,
      first_length a.numbers.processors a.numbers.resources a.numbers.count a.numbers.read
          a.numbers.write,
      c.requires,
    )) first.put_labelled.ensures.size first.put_labelled.ensures.bytes second.put_labelled-2.ensures.size
    second.put_labelled-2.ensures.bytes
    c.write_figures.ensures)
