-- `refusal_line` meets its contract. Assumes nothing.
use mathlib.Core.List.{[], ◌∷◌, ◌++◌}
use Rattle.line_fields.specs.NumberFields.{last_field}
use Rattle.listings.specs.PlainLines.{refused_word}
use Rattle.listings.proofs.lines.Parts.{fault_parts, some_fault}
use Rattle.listings.proofs.Room.{no_field_line, field_line}
use Rattle.listings.proofs.lines.refusal_line.Goals as goal

pub returns-then-size-eq0 : goal.returns-then-size-eq0
returns-then-size-eq0 c =
    let both =
    no_field_line (last_field (refused_word ++ (32 ∷ []))
    c.from-number.result)
    c.args.buffer.now _
    c.args.at _
    (some_fault c.from-number.result)
    c.put_line_end-size.ensures.size c.put_line_end-size.ensures.bytes
    c.if-size-eq0.true in
    record {
      outcome = rw (← c.from-number.ensures, fault_parts c.from-number.result) both.0;
      bytes = rw (← c.from-number.ensures, fault_parts c.from-number.result) both.1;
    }

pub returns-else-size-eq0 : goal.returns-else-size-eq0
returns-else-size-eq0 c =
    let both =
    field_line (last_field (refused_word ++ (32 ∷ []))
    c.from-number.result)
    c.args.buffer.now _
    c.args.at _
    (some_fault c.from-number.result)
    c.put_line_end-size.ensures.size c.put_line_end-size.ensures.bytes
    c.if-size-eq0.false in
    record {
      outcome = rw (← c.from-number.ensures, fault_parts c.from-number.result) both.0;
      bytes = rw (← c.from-number.ensures, fault_parts c.from-number.result) both.1;
    }
