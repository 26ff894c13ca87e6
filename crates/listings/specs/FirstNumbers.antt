-- The first line from its numbers. Specification, clause 9.6.
use Rattle.std.specs.Prelude.{ℕ, ◌+◌, List, length}
use Rattle.digits.specs.Digits.{decimal}
use Rattle.listings.specs.PlainLines.{numbers_line}
use Rattle.listings.specs.declared.first_lines.FirstNumbers.{FirstNumbers}

abbrev pub first_numbers_line : FirstNumbers → List ℕ
first_numbers_line n = numbers_line n.processors n.resources n.count n.read n.write

-- How many digits the five numbers have together.
abbrev pub digits_in : FirstNumbers → ℕ
digits_in n =
    length (decimal n.processors) + length (decimal n.resources)
    + length (decimal n.count) + length (decimal n.read) + length (decimal n.write)
