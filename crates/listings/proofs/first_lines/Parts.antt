-- The first line in the parts that are stored: five numbers, each after its word. Assumes nothing.
use Prim.Native.Nat.{ℕ, ◌+◌}
use native.Mathlib.Omega.{arith}
use mathlib.Core.Path.{◌≡◌, refl, sym, ap, ◌∙◌}
use mathlib.Core.List.{List, [], ◌∷◌, ◌++◌}
use lib.ListN.{length, length-append}
use Rattle.digits.specs.Digits.{decimal}
use Rattle.line_fields.specs.NumberFields.{labelled, last_field}
use Rattle.listings.specs.PlainLines.{processors_word, resources_word, entries_word, read_word, write_word}
use Rattle.listings.specs.PlainLines.{further_fields, numbers_line}
use Rattle.listings.proofs.lines.Lengths.{length_numbers}

abbrev pub processors_field : ℕ → List ℕ
processors_field n = labelled (processors_word ++ (32 ∷ [])) n

abbrev pub resources_field : ℕ → List ℕ
resources_field n = labelled (32 ∷ resources_word ++ (32 ∷ [])) n

abbrev pub entries_field : ℕ → List ℕ
entries_field n = labelled (32 ∷ entries_word ++ (32 ∷ [])) n

abbrev pub read_field : ℕ → List ℕ
read_field n = labelled (32 ∷ read_word ++ (32 ∷ [])) n

abbrev pub write_field : ℕ → List ℕ
write_field n = last_field (32 ∷ write_word ++ (32 ∷ [])) n

module _ (count read write : ℕ) where
  abbrev pub figures_part : List ℕ
  figures_part = further_fields (entries_word ∷ decimal count ∷ read_word ∷ decimal read ∷ write_word ∷ decimal write ∷ [])

  pub figures_parts : figures_part ≡ entries_field count ++ (read_field read ++ write_field write)
  unfolding further_fields
  figures_parts = refl

  pub figures_length : length (entries_field count ++ (read_field read ++ write_field write))
      ≡ 23 + (length (decimal count) + length (decimal read) + length (decimal write))
  figures_length = simp length-append (omega arith)

module _ (m r count read write : ℕ) where
  pub first_parts : numbers_line m r count read write
      ≡ processors_field m ++ (resources_field r ++ figures_part count read write)
  unfolding further_fields
  first_parts = refl

  pub first_length : length (processors_field m ++ (resources_field r ++ figures_part count read write))
      ≡ 45 + (length (decimal m) + length (decimal r) + length (decimal count) + length (decimal read) + length
      (decimal write))
  first_length = sym (ap (λ (x : List ℕ). length x) first_parts) ∙ length_numbers m r count read write

  pub part_length : length (figures_part count read write)
      ≡ 23 + (length (decimal count) + length (decimal read) + length (decimal write))
  part_length = ap (λ (x : List ℕ). length x) (figures_parts count read write) ∙ figures_length count read write

  pub first_size_is : (size : ℕ) → size ≡ 45 +
      (length (decimal m) + length (decimal r) + length (decimal count) + length (decimal read) + length
      (decimal write))
      → size ≡ length (numbers_line m r count read write)
  first_size_is size e = e ∙ sym (length_numbers m r count read write)
