-- The opening line, from what was read.
use Rattle.std.specs.Prelude.{ℕ, cond, List, eqb}
use Rattle.plans.specs.declared.Plan.{Plan}
use Rattle.listings.specs.PlainLines.{refusal_line}
use Rattle.listings.specs.Lines.{first_line}

-- The line that opens a listing, from the plan and the number that it is refused with.
abbrev pub opening_by : ℕ → Plan → List ℕ
opening_by number p = cond (eqb number 0) (first_line p) (refusal_line number)
