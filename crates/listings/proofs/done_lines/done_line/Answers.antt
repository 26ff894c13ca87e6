-- `done_line` meets its contract. Assumes nothing.
use Rattle.plans.specs.Entries.{mask_size_for}
use Rattle.digits.proofs.Placed.{fields_stored}
use Rattle.line_fields.specs.Leads.{call_lead}
use Rattle.line_fields.specs.NumberFields.{last_field}
use Rattle.line_fields.specs.MaskFields.{mask_fields}
use Rattle.listings.proofs.lines.Parts.{some_lead}
use Rattle.listings.proofs.Room.{no_line, rest_fits, whole_line}
use Rattle.listings.proofs.done_lines.Parts.{done_tail, done_parts, done_tail_length}
use mathlib.Core.List.{[], ◌∷◌}
use Rattle.listings.proofs.done_lines.done_line.Goals as goal

pub returns-then-led-eq0 : goal.returns-then-led-eq0
returns-then-led-eq0 c =
    let led = c in
    let a = led.args in
    let both =
    no_line (call_lead a.lead.letter a.lead.processor a.lead.tick)
    (done_tail a.format.pairs.now (mask_size_for a.format.processors) a.done.granted a.done.entitled a.done.late) a.buffer.now
    a.at _ _ (some_lead a.lead.letter a.lead.processor a.lead.tick)
    (done_tail_length a.format.pairs.now (mask_size_for a.format.processors) _ a.done.granted a.done.entitled a.done.late _
    led.mask_size.ensures led.byte_digits.ensures.is)
    led.put_lead-led.ensures.size c.if-led-eq0.true _ led.put_lead-led.ensures.bytes in
    record {
      outcome = rw (done_parts a.lead.letter a.lead.processor a.lead.tick a.format.pairs.now (mask_size_for a.format.processors) a.done.granted
          a.done.entitled a.done.late) both.0;
      bytes = rw (done_parts a.lead.letter a.lead.processor a.lead.tick a.format.pairs.now (mask_size_for a.format.processors) a.done.granted
          a.done.entitled a.done.late) both.1;
    }

pub returns : goal.returns
returns c =
    let led = c in
    let a = led.args in
    let masks = c in
    let rest = rest_fits (call_lead a.lead.letter a.lead.processor a.lead.tick)
    (done_tail a.format.pairs.now (mask_size_for a.format.processors) a.done.granted a.done.entitled a.done.late) a.buffer.now
    a.at _ _ (some_lead a.lead.letter a.lead.processor a.lead.tick)
    (done_tail_length a.format.pairs.now (mask_size_for a.format.processors) _ a.done.granted a.done.entitled a.done.late _
    led.mask_size.ensures led.byte_digits.ensures.is)
    led.put_lead-led.ensures.size
    c.if-led-eq0.false _
    led.put_lead-led.ensures.bytes in
    let both =
    whole_line (call_lead a.lead.letter a.lead.processor a.lead.tick)
    (done_tail a.format.pairs.now (mask_size_for a.format.processors) a.done.granted a.done.entitled a.done.late) a.buffer.now
    a.at _ _ (some_lead a.lead.letter a.lead.processor a.lead.tick)
    (done_tail_length a.format.pairs.now (mask_size_for a.format.processors) _ a.done.granted a.done.entitled a.done.late _
    led.mask_size.ensures led.byte_digits.ensures.is)
    led.put_lead-led.ensures.size
    c.if-led-eq0.false _
    led.put_lead-led.ensures.bytes _ _
    (fields_stored (mask_fields a.format.pairs.now (mask_size_for a.format.processors) a.done.granted a.done.entitled)
    (last_field (32 ∷ []) a.done.late) _ _
    rest masks.put_masks.ensures.size masks.put_masks.ensures.bytes c.put_line_end.ensures.size
    c.put_line_end.ensures.bytes) in
    record {
      outcome = rw (done_parts a.lead.letter a.lead.processor a.lead.tick a.format.pairs.now (mask_size_for a.format.processors) a.done.granted
          a.done.entitled a.done.late) both.0;
      bytes = rw (done_parts a.lead.letter a.lead.processor a.lead.tick a.format.pairs.now (mask_size_for a.format.processors) a.done.granted
          a.done.entitled a.done.late) both.1;
    }
