-- The lines of a listing from their numbers, as bytes of ASCII: 32 is a space, 10 a line feed. Specification,
-- section 9.
use Rattle.std.specs.Prelude.{ℕ, List, [], ◌∷◌, ◌++◌, length}
use Rattle.refusals.specs.Due.{AsNumbers, as_numbers}
use Rattle.encoding.specs.Buffers.{room_fault, buffer_after}
use Rattle.digits.specs.Digits.{decimal}
use Rattle.line_fields.specs.declared.call_leads.Lead.{Lead}

-- Clauses 9.6 to 9.8: the words `processors`, `resources`, `entries`, `read`, `write`, `refused`.
abbrev pub processors_word : List ℕ
processors_word = 112 ∷ 114 ∷ 111 ∷ 99 ∷ 101 ∷ 115 ∷ 115 ∷ 111 ∷ 114 ∷ 115 ∷ []

abbrev pub resources_word : List ℕ
resources_word = 114 ∷ 101 ∷ 115 ∷ 111 ∷ 117 ∷ 114 ∷ 99 ∷ 101 ∷ 115 ∷ []

abbrev pub entries_word : List ℕ
entries_word = 101 ∷ 110 ∷ 116 ∷ 114 ∷ 105 ∷ 101 ∷ 115 ∷ []

abbrev pub read_word : List ℕ
read_word = 114 ∷ 101 ∷ 97 ∷ 100 ∷ []

abbrev pub write_word : List ℕ
write_word = 119 ∷ 114 ∷ 105 ∷ 116 ∷ 101 ∷ []

abbrev pub refused_word : List ℕ
refused_word = 114 ∷ 101 ∷ 102 ∷ 117 ∷ 115 ∷ 101 ∷ 100 ∷ []

-- Clause 9.9: a space before each further field, and a line feed after the last.
unfoldable pub further_fields : List (List ℕ) → List ℕ
further_fields [] = 10 ∷ []
further_fields (field ∷ later) = 32 ∷ field ++ further_fields later

-- A line from its first field and the further ones.
abbrev pub line : List ℕ → List (List ℕ) → List ℕ
line field later = field ++ further_fields later

-- Clause 9.6: the first line contains the three counts and the two figures, each after its word.
abbrev pub numbers_line : ℕ → ℕ → ℕ → ℕ → ℕ → List ℕ
numbers_line processors resources count read write =
    line processors_word
    (decimal processors
    ∷ resources_word
    ∷ decimal resources
    ∷ entries_word
    ∷ decimal count
    ∷ read_word
    ∷ decimal read
    ∷ write_word
    ∷ decimal write
    ∷ [])

-- Clause 9.8: the line of a fault in the bytes.
unfoldable pub refusal_line : ℕ → List ℕ
refusal_line number = line refused_word (decimal number ∷ [])

-- Clause 9.7: the fields after the processor: both masks, in the given digits, and late; or `refused` and the number.
abbrev pub done_fields : (ℕ → List ℕ) → ℕ → ℕ → ℕ → List (List ℕ)
done_fields mask granted entitled late = mask granted ∷ mask entitled ∷ decimal late ∷ []

abbrev pub refused_fields : ℕ → List (List ℕ)
refused_fields number = refused_word ∷ decimal number ∷ []

-- Clause 9.7: a call's line: its tick, its letter, its processor, and the fields after it.
abbrev pub fields_line : ℕ → ℕ → ℕ → List (List ℕ) → List ℕ
fields_line letter processor tick fields = line (decimal tick) ((letter ∷ []) ∷ decimal processor ∷ fields)

-- The same with the lead of a call.
abbrev pub led_line : Lead → List (List ℕ) → List ℕ
led_line lead fields = fields_line lead.letter lead.processor lead.tick fields

-- Clauses 9.9 and 2.12: a line is written into a lent buffer from a position on. 16 if there is no room for it.
abbrev pub line_fault : List ℕ → ℕ → ℕ → ℕ
line_fault bytes size at = room_fault (length bytes) size at

-- How many bytes were written into a buffer of size bytes, or the refusal.
abbrev pub line_as_numbers : List ℕ → ℕ → ℕ → AsNumbers
line_as_numbers bytes size at = as_numbers (line_fault bytes size at) (length bytes)

-- Clause 2.12: the buffer after the line. Other bytes stay, and a refusal writes nothing.
abbrev pub line_buffer : List ℕ → List ℕ → ℕ → List ℕ
line_buffer bytes buffer at = buffer_after (line_fault bytes (length buffer) at) bytes buffer at
