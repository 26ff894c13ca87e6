-- The arbiter's answers by value, in numbers. Specification, section 4.
use Rattle.rules.specs.Replies.{reply_as_numbers}
use Rattle.rules.specs.Calls.{Answer}
use Rattle.arbiter.specs.declared.answering_by_value.Answered.{Answered}

-- Clauses 4.7 and 4.9: the reply in numbers, and the state after it.
abbrev pub answer_of : Answered → Answer
answer_of a = record { reply = reply_as_numbers a.reply; state = a.state }
