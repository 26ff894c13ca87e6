-- What a known answer implies for the bytes that it was read from. Assumes nothing.
use Rattle.std.specs.Prelude.{Result, Ok, Err}
use Prim.Native.Nat.{ℕ, ◌≤◌}
use mathlib.Core.Path.{◌≡◌, refl, sym, ap, ◌∙◌}
use mathlib.Core.List.{List}
use lib.ListN.{length}
use Rattle.refusals.specs.declared.Refusal.{Refusal}
use Rattle.refusals.specs.Number.{number_of}
use Rattle.encoding.proofs.Room.{enough_length}
use Rattle.rules.specs.declared.calls.Call.{Call}
use Rattle.rules.specs.CallNumbers.{call_as_numbers, call_of}
use Rattle.logs.specs.Verbs.{record_as_numbers}
use Rattle.logs.specs.Records.{count_size, count_as_numbers, read_count, fields_in, record_fault, read_record}

-- If a count is accepted, its bytes are there.
pub count_there_law : (s : List ℕ) → (read_count s).number ≡ 0 → count_size ≤ length s
count_there_law s e = enough_length count_size s e

pub count_is : (a : Result ℕ Refusal) (s : List ℕ) (n : ℕ) → count_as_numbers a ≡ read_count s → a ≡ Ok n
    → (read_count s).number ≡ 0
count_is a s n says e = ap (λ x. x.number) (sym says ∙ ap count_as_numbers e)

-- The call that a call's fields give is the call itself.
call_back : (c : Call) → call_of (call_as_numbers c) ≡ c
call_back (Call.Issue p e t) = refl
call_back (Call.Complete p t) = refl
call_back (Call.Withdraw p t) = refl
call_back (Call.Handover p e t) = refl

module _ (a : Result Call Refusal) (s : List ℕ) (says : record_as_numbers a ≡ read_record s) where
  pub record_is : (c : Call) → a ≡ Ok c → (record_fault s ≡ 0) × (call_of (fields_in s) ≡ c)
  unfolding read_record
  record_is c e =
      let whole = sym says ∙ ap record_as_numbers e in
      let none : record_fault s ≡ 0 = ap (λ x. x.number) whole in
      let fields : fields_in s ≡ call_as_numbers c = rw none at (ap (λ x. x.fields) whole) in
      (none, ap call_of fields ∙ call_back c)

  pub record_refused : (r : Refusal) → a ≡ Err r → record_fault s ≡ number_of r
  unfolding read_record
  record_refused r e = ap (λ x. x.number) (sym says ∙ ap record_as_numbers e)
