-- What every call's line begins with, as bytes of ASCII: 32 is a space. Specification, section 9.
use Rattle.std.specs.Prelude.{ℕ, List, ◌∷◌, ◌++◌}
use Rattle.digits.specs.Digits.{decimal}
use Rattle.line_fields.specs.declared.call_leads.Lead.{Lead}

-- Clause 9.7: the lead of a call's line: its tick, its letter and its processor.
abbrev pub call_lead : ℕ → ℕ → ℕ → List ℕ
call_lead letter processor tick = decimal tick ++ (32 ∷ letter ∷ 32 ∷ decimal processor)

-- The lead of these fields.
abbrev pub lead_field : Lead → List ℕ
lead_field lead = call_lead lead.letter lead.processor lead.tick
