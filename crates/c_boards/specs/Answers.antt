-- What a function returns, apart from what it leaves in the caller's memory. Specification, section 11.
use Rattle.refusals.specs.Due.{AsNumbers}
use Rattle.c_boards.specs.declared.c_answers.CAnswer.{CAnswer}

-- Clause 11.4: the number of the refusal, 0 if there is none, and the value, which is 0 with a refusal.
abbrev pub c_answer_as_numbers : CAnswer → AsNumbers
c_answer_as_numbers t = record { number = t.refusal; value = t.value }
