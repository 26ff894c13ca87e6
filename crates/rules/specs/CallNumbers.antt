-- A call in numbers. Specification, sections 4 and 9.
use Rattle.std.specs.Prelude.{ℕ, cond, eqb}
use Rattle.rules.specs.declared.calls.Call.{Call}

-- Clause 9.2: the fields of a call. Verb 0 issues and verb 3 hands over; verb 1 completes and verb 2 withdraws, and
-- their entry is 0.
pub record Fields : Type 0 where
  pub verb : ℕ
  pub processor : ℕ
  pub entry : ℕ
  pub tick : ℕ

abbrev pub call_as_numbers : Call → Fields
call_as_numbers (Call.Issue p e t) = record { verb = 0; processor = p; entry = e; tick = t }
call_as_numbers (Call.Complete p t) = record { verb = 1; processor = p; entry = 0; tick = t }
call_as_numbers (Call.Withdraw p t) = record { verb = 2; processor = p; entry = 0; tick = t }
call_as_numbers (Call.Handover p e t) = record { verb = 3; processor = p; entry = e; tick = t }

-- The call with these fields: 0 issues, 1 completes, 2 withdraws, any other verb hands over. The reader of a log
-- decides which verbs are accepted.
abbrev pub call_of : Fields → Call
call_of f =
    cond (eqb f.verb 0) (Call.Issue f.processor f.entry f.tick)
    (cond (eqb f.verb 1) (Call.Complete f.processor f.tick)
    (cond (eqb f.verb 2) (Call.Withdraw f.processor f.tick)
    (Call.Handover f.processor f.entry f.tick)))

abbrev pub tick_of : Call → ℕ
tick_of (Call.Issue p e t) = t
tick_of (Call.Complete p t) = t
tick_of (Call.Withdraw p t) = t
tick_of (Call.Handover p e t) = t
