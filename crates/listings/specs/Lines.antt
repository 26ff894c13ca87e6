-- The lines of a plan and of a call, as bytes of ASCII. Specification, section 9.
use Rattle.std.specs.Prelude.{ℕ, cond, List, eqb}
use Rattle.plans.specs.declared.Plan.{Plan}
use Rattle.plans.specs.Entries.{mask_size_for}
use Rattle.plans.specs.Figures.{read_figure, write_figure}
use Rattle.rules.specs.declared.calls.Call.{Call}
use Rattle.rules.specs.declared.calls.Done.{Done}
use Rattle.rules.specs.CallNumbers.{call_as_numbers}
use Rattle.rules.specs.Replies.{Response}
use Rattle.digits.specs.Digits.{hex_mask, mask_by}
use Rattle.line_fields.specs.declared.mask_fields.MaskFormat.{MaskFormat}
use Rattle.listings.specs.PlainLines.{numbers_line, done_fields, refused_fields, fields_line}

-- Clause 9.6: the first line contains the plan's counts and its two figures.
unfoldable pub first_line : Plan → List ℕ
first_line p = numbers_line p.processors p.resources p.count (read_figure p) (write_figure p)

-- Clause 9.7: the fields after the processor: both masks and late, or the number of the refusal.
abbrev pub reply_fields : (ℕ → List ℕ) → Response → List (List ℕ)
reply_fields mask reply =
    cond (eqb reply.number 0) (done_fields mask reply.granted reply.entitled reply.late)
    (refused_fields reply.number)

-- The fields of an accepted call, as a format writes its masks.
abbrev pub done_by : MaskFormat → Done → List (List ℕ)
done_by format done =
    done_fields (mask_by format.pairs.now (mask_size_for format.processors)) done.granted done.entitled done.late

-- Clause 9.7: the letter of a call, `i`, `c`, `w` or `h`.
abbrev pub letter_of : Call → ℕ
letter_of (Call.Issue p e t) = 105
letter_of (Call.Complete p t) = 99
letter_of (Call.Withdraw p t) = 119
letter_of (Call.Handover p e t) = 104

-- Clauses 9.7 and 9.9: the line of a call of a plan with m processors. Whether masks have four or eight hexadecimal
-- digits depends on m.
unfoldable pub call_line : ℕ → Call → Response → List ℕ
call_line m c reply =
    fields_line (letter_of c) (call_as_numbers c).processor (call_as_numbers c).tick
    (reply_fields (hex_mask (mask_size_for m)) reply)

-- The same, with the digits of masks from a table of pairs.
unfoldable pub call_line_by : List ℕ → ℕ → Call → Response → List ℕ
call_line_by pairs m c reply =
    fields_line (letter_of c) (call_as_numbers c).processor (call_as_numbers c).tick
    (reply_fields (mask_by pairs (mask_size_for m)) reply)
