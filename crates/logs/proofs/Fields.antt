-- The answer for a record, from the numbers that are read from its bytes. Assumes nothing.
use Prim.Native.Nat.{ℕ, ◌≤◌}
use mathlib.Core.Path.{◌≡◌, ap, ◌∙◌}
use mathlib.Core.List.{List}
use borrow.Author.Tests.{le-leb}
use lib.Dec.{lit<}
use lib.ListN.{length, get_or, take, drop}
use Rattle.encoding.specs.Numbers.{number}
use Rattle.encoding.proofs.Numbers.{part_number}
use Rattle.logs.specs.Verbs.{recorded}
use Rattle.logs.specs.Records.{fields_in, record_fault, read_record}

-- If the 8 bytes of a record are there, its answer is that of its fields.
module _ (s : List ℕ) (h : 8 ≤ length s) where
  fields_read : recorded (fields_in s) ≡ read_record s
  unfolding read_record record_fault
  fields_read = rw (le-leb 8 (length s) h)

  pub record_read : (t : ℕ) → t ≡ number (take 8 (take 5 (drop 3 s)))
      → recorded (record { verb = get_or s 0 0; processor = get_or s 1 0; entry = get_or s 2 0; tick = t }) ≡ read_record s
  unfolding fields_in
  record_read t tick =
      ap
      (λ (x : ℕ). recorded (record { verb = get_or s 0 0; processor = get_or s 1 0; entry = get_or s 2 0; tick = x }))
      (tick ∙ part_number 3 5 s (lit< tt))
      ∙ fields_read
