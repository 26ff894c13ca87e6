-- `refused_line` meets its contract. Assumes nothing.
use Rattle.digits.proofs.Placed.{field_stored}
use Rattle.line_fields.specs.Leads.{call_lead}
use Rattle.listings.proofs.lines.Parts.{refused_tail, refused_parts, some_lead, refused_tail_length}
use Rattle.listings.proofs.Room.{no_line, rest_fits, whole_line}
use Rattle.listings.proofs.lines.refused_line.Goals as goal

pub returns-then-led-eq0 : goal.returns-then-led-eq0
returns-then-led-eq0 c =
    let led = c in
    let a = led.args in
    let both =
    no_line (call_lead a.lead.letter a.lead.processor a.lead.tick) (refused_tail c.from-number.result) a.buffer.now a.at _ _
    (some_lead a.lead.letter a.lead.processor a.lead.tick)
    (refused_tail_length c.from-number.result _ led.byte_digits-more.ensures.is) led.put_lead-led.ensures.size
    c.if-led-eq0.true _ led.put_lead-led.ensures.bytes in
    record {
      outcome = rw (← c.from-number.ensures, refused_parts a.lead.letter a.lead.processor a.lead.tick c.from-number.result) both.0;
      bytes = rw (← c.from-number.ensures, refused_parts a.lead.letter a.lead.processor a.lead.tick c.from-number.result) both.1;
    }

pub returns : goal.returns
returns c =
    let led = c in
    let a = led.args in
    let rest = rest_fits (call_lead a.lead.letter a.lead.processor a.lead.tick) (refused_tail c.from-number.result) a.buffer.now
    a.at _ _ (some_lead a.lead.letter a.lead.processor a.lead.tick)
    (refused_tail_length c.from-number.result _ led.byte_digits-more.ensures.is) led.put_lead-led.ensures.size
    c.if-led-eq0.false _ led.put_lead-led.ensures.bytes in
    let both =
    whole_line (call_lead a.lead.letter a.lead.processor a.lead.tick) (refused_tail c.from-number.result) a.buffer.now a.at _ _
    (some_lead a.lead.letter a.lead.processor a.lead.tick)
    (refused_tail_length c.from-number.result _ led.byte_digits-more.ensures.is) led.put_lead-led.ensures.size
    c.if-led-eq0.false _ led.put_lead-led.ensures.bytes
    _ _ (field_stored (refused_tail c.from-number.result) _ _ rest c.put_line_end.ensures.size
    c.put_line_end.ensures.bytes) in
    record {
      outcome = rw (← c.from-number.ensures, refused_parts a.lead.letter a.lead.processor a.lead.tick c.from-number.result) both.0;
      bytes = rw (← c.from-number.ensures, refused_parts a.lead.letter a.lead.processor a.lead.tick c.from-number.result) both.1;
    }
