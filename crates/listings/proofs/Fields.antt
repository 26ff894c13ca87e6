-- The fields of a reply in its line, and a call's line with the table of all bytes. Assumes nothing.
use Rattle.std.specs.Prelude.{Result, Ok, Err}
use Prim.Native.Nat.{ℕ}
use mathlib.Core.Path.{◌≡◌, refl}
use mathlib.Core.List.{List}
use Rattle.refusals.specs.declared.Refusal.{Refusal}
use Rattle.refusals.specs.Number.{number_of}
use Rattle.refusals.proofs.Numbers.{number_not_zero}
use Rattle.rules.specs.declared.calls.Call.{Call}
use Rattle.rules.specs.declared.calls.Done.{Done}
use Rattle.rules.specs.Replies.{Response, reply_as_numbers}
use Rattle.plans.specs.Entries.{mask_size_for}
use Rattle.digits.specs.Digits.{hex_pairs}
use Rattle.digits.proofs.Table.{mask_digits}
use Rattle.listings.specs.PlainLines.{done_fields, refused_fields}
use Rattle.listings.specs.Lines.{reply_fields, call_line, call_line_by}

-- The fields of a reply, after the processor.
module _ (mask : ℕ → List ℕ) (reply : Result Done Refusal) where
  pub done_fields_law : (done : Done) → reply ≡ Ok done
      → reply_fields mask (reply_as_numbers reply) ≡ done_fields mask done.granted done.entitled done.late
  done_fields_law done e = rw e refl

  pub refused_fields_law : (r : Refusal) → reply ≡ Err r → reply_fields mask (reply_as_numbers reply)
      ≡ refused_fields (number_of r)
  refused_fields_law r e = rw (e, number_not_zero r)

-- With the table of all bytes, `call_line_by` is `call_line`.
pub line_by_table : (m : ℕ) (c : Call) (reply : Response) → call_line_by hex_pairs m c reply ≡ call_line m c reply
unfolding call_line_by call_line
line_by_table m c reply =
    rw (mask_digits (mask_size_for m) reply.granted, mask_digits (mask_size_for m) reply.entitled) refl
