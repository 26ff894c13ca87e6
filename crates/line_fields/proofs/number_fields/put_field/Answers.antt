-- `put_field` meets its contract: the number is stored if everything fits, and then the word before it.
-- Assumes nothing.
use Rattle.digits.specs.Digits.{decimal}
use Rattle.digits.proofs.DecimalDigits.{some_digit}
use Rattle.line_fields.proofs.number_fields.Words.{no_digits}
use Rattle.line_fields.proofs.number_fields.Words.{word_placed}
use Rattle.line_fields.proofs.number_fields.put_field.Goals as goal

pub returns-then-size-eq0 : goal.returns-then-size-eq0
returns-then-size-eq0 c =
    let put = c in
    let a = put.args in
    let both = no_digits a.word.now (decimal a.n) a.buffer.now a.at a.more (some_digit a.n)
    put.put_decimal-size.ensures.size put.put_decimal-size.ensures.bytes c.if-size-eq0.true in
    record { size = both.0; bytes = both.1 }

pub returns-else-size-eq0 : goal.returns-else-size-eq0
returns-else-size-eq0 c =
    let put = c in
    let a = put.args in
    let both = word_placed a.word.now (decimal a.n) a.buffer.now a.at a.more (some_digit a.n)
    put.put_decimal-size.ensures.size put.put_decimal-size.ensures.bytes c.if-size-eq0.false
    c.write_word.ensures in
    record { size = both.0; bytes = both.1 }
