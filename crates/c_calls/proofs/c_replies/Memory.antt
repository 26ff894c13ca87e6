-- A call in place whose reply is returned in numbers leaves the same answer: its moment is stored if it was carried
-- out, and nothing is stored if it was refused. Assumes nothing.
use Rattle.std.specs.Prelude.{Result, Ok, Err}
use Prim.Native.Nat.{ℕ}
use mathlib.Core.Bool.{Bool, true, false, cond}
use mathlib.Core.List.{List}
use mathlib.Core.Path.{◌≡◌, refl, sym, ap, ◌∙◌}
use lib.Dec.{eqb}
use Rattle.refusals.specs.declared.Refusal.{Refusal}
use Rattle.refusals.specs.Number.{number_of}
use Rattle.refusals.proofs.Numbers.{refused_not_zero}
use Rattle.rules.specs.Replies.{reply_as_numbers, refused_with}
use Rattle.rules.specs.declared.calls.Done.{Done}
use Rattle.rules.specs.declared.calls.Changed.{Changed}
use Rattle.rules.specs.Calls.{Answer, ruled}
use Rattle.rules.specs.InPlace.{state_by, answer_by}
use Rattle.rules.specs.declared.states.State.{State}
use Rattle.rules.specs.declared.states.Moment.{Moment}
use Rattle.c_boards.specs.Parts.{moment_by}
use Rattle.c_calls.specs.declared.c_replies.CReply.{CReply}
use Rattle.c_calls.specs.Replies.{response, moment_left, answer_in}

-- The same with the moment that was read from the caller's memory.
pub from_memory : (call : State → Answer) (moment : Moment) (last : ℕ) (phases entry since earlier : List ℕ)
    (a : Answer)
    → moment ≡ moment_by last phases → a ≡ call (state_by moment entry since earlier)
    → a ≡ call (state_by (moment_by last phases) entry since earlier)
from_memory call moment last phases entry since earlier a read is = is
    ∙ ap (λ m. call (state_by m entry since earlier)) read

-- ---- a refused call

-- An answer with a refusal's number is not that of a call that was carried out, so the state is the one given.
state_kept : (accepts : Bool) (n : ℕ) (s : State) (a : Answer) → a.reply.number ≡ 0 → (r : Refusal)
    → (cond accepts a (record { reply = refused_with n; state = s })).reply.number ≡ number_of r
    → (cond accepts a (record { reply = refused_with n; state = s })).state ≡ s
state_kept true n s a zero r is = absurd (refused_not_zero r (sym is ∙ zero))
state_kept false n s a zero r is = refl

-- If the answer x is a refusal, its state is s.
abbrev pub Stays : Answer → State → Type 0
Stays x s = (r : Refusal) → x.reply.number ≡ number_of r → x.state ≡ s

pub ruled_stays : (n : ℕ) (s : State) (a : Answer) → a.reply.number ≡ 0 → Stays (ruled n s a) s
ruled_stays n s a zero = state_kept (eqb n 0) n s a zero

-- ---- any call

-- The moment that is left is the one after the call; after a refused call it is the one before.
moment_after : (x : Answer) (s : State) → Stays x s → (changed : Changed) (entry since earlier : List ℕ)
    → answer_by changed entry since earlier ≡ x → (r : Result Done Refusal) → changed.reply ≡ r
    → moment_left r changed.moment (record { last = s.last; phases = s.phases }) ≡ changed.moment
moment_after x s stays changed entry since earlier is (Ok d) e = refl
moment_after x s stays changed entry since earlier is (Err r) e =
    sym
    (ap (λ a. record { last = a.state.last; phases = a.state.phases }) is
    ∙ ap (λ a. record { last = a.last; phases = a.phases })
    (stays r (ap (λ a. a.reply.number) (sym is) ∙ ap (λ a. (reply_as_numbers a).number) e)))

-- So the caller's memory contains the call's answer.
pub answered : (x : Answer) (s : State) → Stays x s → (told : CReply) (changed : Changed) (last : ℕ)
    (phases entry since earlier : List ℕ) → response told ≡ reply_as_numbers changed.reply
    → moment_by last phases ≡ moment_left changed.reply changed.moment
    (record { last = s.last; phases = s.phases })
    → answer_by changed entry since earlier ≡ x → answer_in told last phases entry since earlier ≡ x
answered x s stays told changed last phases entry since earlier says left is =
    ap (λ a. record { reply = a; state = state_by (moment_by last phases) entry since earlier }) says
    ∙ ap (λ m. record { reply = reply_as_numbers changed.reply; state = state_by m entry since earlier })
    (left ∙ moment_after x s stays changed entry since earlier is changed.reply refl)
    ∙ is
