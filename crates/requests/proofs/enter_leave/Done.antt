-- The effects of entering and leaving, built from what their parts return. Assumes nothing.
use mathlib.Core.Path.{◌≡◌, ap, ap₂, ◌∙◌}
use mathlib.Core.List.{List}
use Prim.Native.Nat.{ℕ}
use Rattle.rules.specs.declared.states.Phases.{Phases}
use Rattle.rules.specs.Requests.{Facts, facts_by}
use Rattle.rules.specs.Settling.{settled}
use Rattle.rules.specs.Acts.{put_in, stamped}
use Rattle.rules.specs.Calls.{Answer, done}
use Rattle.rules.specs.InPlace.{state_by}

-- A request left: the others are settled, from the phases that were computed.
pub left_done : (f : Facts) (tick late : ℕ) (entry since earlier : List ℕ) {ready gone after : Phases} {a : Answer}
    → ready ≡ gone
    → after ≡ settled f ready → a ≡ done (state_by (record { last = tick; phases = ready }) entry since earlier) after
    late
    → a ≡ done (state_by (record { last = tick; phases = gone }) entry since earlier) (settled f gone) late
left_done f tick late entry since earlier er ea e =
    e
    ∙ ap₂ (λ ph after. done (state_by (record { last = tick; phases = ph }) entry since earlier) after late) er
    (ea ∙ ap (settled f) er)

-- A request entered: all are settled, from the arrays and the phases that were computed.
pub entered_done : (rows : List ℕ) (writes tick p : ℕ) (ph : Phases) (line : List ℕ) {entry : List ℕ}
    (entry₀ : List ℕ) {since : List ℕ}
    (since₀ : List ℕ) {after : Phases} {a : Answer} → entry ≡ entry₀ → since ≡ since₀ → after
    ≡ settled (facts_by rows writes entry line) (put_in ph p)
    → a ≡ done (state_by (record { last = tick; phases = ph }) entry since line) after 0
    → a
    ≡ done (state_by (record { last = tick; phases = put_in ph p }) entry₀ since₀ line)
    (settled (facts_by rows writes entry₀ line) (put_in ph p)) 0
unfolding put_in stamped done
entered_done rows writes tick p ph line entry₀ since₀ ee es ea eq =
    eq
    ∙ (λ i. done (state_by (record { last = tick; phases = ph }) (ee i) (es i) line) (ea i) 0)
    ∙ ap (λ (entry : List ℕ). done (state_by (record { last = tick; phases = ph }) entry₀ since₀ line)
    (settled (facts_by rows writes entry line) (put_in ph p)) 0) ee
