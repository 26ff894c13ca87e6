-- The lines of a log's call count and of its end. Specification, section 9.
use Rattle.std.specs.Prelude.{ℕ, cond, List, [], eqb}
use Rattle.logs.specs.Records.{read_count, record_fault, tail_fault}
use Rattle.listings.specs.PlainLines.{refusal_line}

-- Clause 9.8: the line of the number that is due, and no line for 0.
abbrev pub fault_line : ℕ → List ℕ
fault_line number = cond (eqb number 0) [] (refusal_line number)

-- Clause 9.8: the line of the count's refusal.
abbrev pub count_line : List ℕ → List ℕ
count_line s = fault_line (read_count s).number

-- Clauses 9.4 and 9.5: at the end of the input, 1 for a call that is due, and 2 for bytes after the last call.
unfoldable pub end_fault : ℕ → List ℕ → ℕ
end_fault left s = cond (eqb left 0) (tail_fault s) (record_fault s)

abbrev pub end_line : ℕ → List ℕ → List ℕ
end_line left s = fault_line (end_fault left s)
