-- The step of a record that was read: that of its call, or of its refusal. Assumes nothing.
use Rattle.std.specs.Prelude.{Result, Ok, Err}
use Prim.Native.Nat.{ℕ}
use mathlib.Core.Path.{◌≡◌, ap, ◌∙◌}
use mathlib.Core.Bool.{true}
use mathlib.Core.List.{List}
use lib.ListN.{length}
use Rattle.refusals.specs.declared.Refusal.{Refusal}
use Rattle.refusals.specs.Number.{number_of}
use Rattle.refusals.proofs.Numbers.{number_not_zero}
use Rattle.encoding.specs.Buffers.{outcome_as_numbers}
use Rattle.rules.specs.declared.calls.Call.{Call}
use Rattle.rules.specs.declared.states.Board.{Board}
use Rattle.rules.specs.declared.states.State.{State}
use Rattle.logs.specs.Verbs.{record_as_numbers}
use Rattle.logs.specs.Records.{read_record}
use Rattle.logs.proofs.Answers.{record_is, record_refused}
use Rattle.listings.specs.PlainLines.{refusal_line, line_as_numbers, line_buffer}
use Rattle.replay.specs.Steps.{Stands, call_step, stands}
use Rattle.replay.specs.Records.{refusal_step, record_step}

module _ (pairs : List ℕ) (b : Board) (st : State) (s : List ℕ) (a : Result Call Refusal)
    (read : record_as_numbers a ≡ read_record s) where
  pub call_step_law : (c : Call) → a ≡ Ok c → record_step pairs b st s ≡ call_step pairs b st c
  unfolding record_step
  call_step_law c is = let e = record_is a s read c is in rw (e.0, e.1)

  refusal_step_law : (r : Refusal) → a ≡ Err r → record_step pairs b st s ≡ refusal_step st (number_of r)
  unfolding record_step
  refusal_step_law r is = rw (record_refused a s read r is, number_not_zero r)

  pub refusal_carried : (r : Refusal) → a ≡ Err r
      → (out : List ℕ) (at : ℕ) (la : Result ℕ Refusal) (out' : List ℕ) (n : ℕ)
      → outcome_as_numbers la ≡ line_as_numbers (refusal_line (number_of r)) (length out) at
      → out' ≡ line_buffer (refusal_line (number_of r)) out at
      → n ≡ (outcome_as_numbers la).value
      → (◌≡◌ {A = Stands} (record { state = st; written = n; ended = true })
      (stands (record_step pairs b st s) (length out) at))
      × (out' ≡ line_buffer (record_step pairs b st s).line out at)
  unfolding stands
  refusal_carried r is out at la out' n says put size =
      let took : n ≡ (line_as_numbers (refusal_line (number_of r)) (length out) at).value = size ∙ ap (λ x. x.value) says in
      rw (refusal_step_law r is) (λ i. record { state = st; written = took i; ended = true }, put)
