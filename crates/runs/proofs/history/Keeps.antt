-- Holds and waits along the calls: what the claim requires of a history, and what it says of the state that the history
-- led to. Assumes nothing.
use Prim.Native.Nat.{ℕ, ◌+◌, ◌-◌, ◌≤◌, ◌<◌, zero-le}
use mathlib.Core.Path.{◌≡◌, sym, ap, ap₂, subst, ◌∙◌}
use mathlib.Core.Bool.{Bool, true, cond}
use native.Mathlib.Nat.{le_trans}
use native.Mathlib.Omega.{arith}
use lib.ListN.{length}
use Rattle.plans.specs.Entries.{max_processors}
use Rattle.rules.specs.declared.states.State.{State}
use Rattle.runs.specs.History.{When, never, at, happened, tick_or, Request, History, hold_of, wait_of}
use Rattle.runs.specs.Claim.{request}
use Rattle.runs.proofs.history.Cases.{below_or_past}
use Rattle.runs.proofs.history.Tied.{Holding, Tied, waits, holds, ended, never_is_not_at}
use Rattle.runs.proofs.history.Spans.{timed, hold_grows}
use Rattle.runs.proofs.history.Related.{Related, Advanced}
use Rattle.runs.proofs.columns.Columns.{holding}
use Rattle.runs.proofs.columns.Phases.{is_active_law, Unsatisfied, unsatisfied_not_holding}
use Rattle.runs.proofs.refinement.Clean.{phase_in, entry_for, since_in}

-- The holds of the group up to tick n last no longer than their entries' lengths, and the waits no longer than their
-- bounds.
abbrev pub Keeps : (ℕ → ℕ) → (ℕ → Bool) → ℕ → History → Type 0
Keeps length-of group n h =
    (i : ℕ) → i < length h.requests → group (request h i).entry ≡ true
    → hold_of n (request h i) ≤ length-of (request h i).entry

abbrev pub Waits : (ℕ → ℕ) → (ℕ → Bool) → ℕ → History → Type 0
Waits bound group n h =
    (i : ℕ) → i < length h.requests → group (request h i).entry ≡ true
    → wait_of n (request h i) ≤ bound (request h i).entry

-- The same for the state: its holders, and its unsatisfied requests.
abbrev pub KeptTo : (ℕ → ℕ) → (ℕ → Bool) → State → ℕ → Type 0
KeptTo length-of group s t =
    (q : ℕ) → q < max_processors → phase_in s q ≡ holding → group (entry_for s q) ≡ true
    → t ≤ since_in s q + length-of (entry_for s q)

abbrev pub WaitsTo : (ℕ → ℕ) → (ℕ → Bool) → State → ℕ → Type 0
WaitsTo bound group s t =
    (q : ℕ) → q < max_processors → Unsatisfied (phase_in s q) → group (entry_for s q) ≡ true
    → t ≤ since_in s q + bound (entry_for s q)

-- ---- along the calls

pub keeps_earlier : (length-of : ℕ → ℕ) (group : ℕ → Bool) (n t : ℕ) (h : History) → n ≤ t → Keeps length-of group t h
    → Keeps length-of group n h
keeps_earlier length-of group n t h l keeps i m g = le_trans (hold_grows n t (request h i) l) (keeps i m g)

module _ (bound : ℕ → ℕ) (group : ℕ → Bool) (t : ℕ) (h h' : History) (adv : Advanced t h h') where
  pub keeps_before : Keeps bound group t h' → Keeps bound group t h
  keeps_before keeps i l g =
      let same = adv.old i l in
      omega (arith, same.hold, ap bound same.entry, keeps i (le_trans l adv.longer) (ap group same.entry ∙ g))

  pub waits_on : Waits bound group t h → Waits bound group t h'
  waits_on before i l g =
      below_or_past i (length h.requests)
      (λ old.
      let same = adv.old i old in
      omega (arith, same.wait, ap bound same.entry, before i old (ap group (sym same.entry) ∙ g)))
      (λ new. subst (λ (n : ℕ). n ≤ bound (request h' i).entry) (sym (adv.new i new l)) zero-le)

-- ---- the state's holders

-- The request of a processor that holds.
holding_of : (s : State) (r : Request) → Tied s r → r.end ≡ never → phase_in s r.processor ≡ holding
    → (g : ℕ) × Holding s r g
holding_of s r (holds g w) no_end h = (g, w)
holding_of s r (ended d e) no_end h = absurd (never_is_not_at d (sym no_end ∙ e))
holding_of s r (waits w) no_end h = absurd (unsatisfied_not_holding w.unsatisfied h)

pub kept_to : (length-of : ℕ → ℕ) (group : ℕ → Bool) (s : State) (t : ℕ) (h : History) → Related s h
    → Keeps length-of group t h
    → KeptTo length-of group s t
kept_to length-of group s t h rel keeps q l held in_group =
    let found = rel.present q l (is_active_law held tt) in
    let r : Request = request h found.0 in
    let at_q : r.processor ≡ q = found.1.processor in
    let (g, w) =
    holding_of s r (rel.each found.0 found.1.listed) found.1.no_end (ap (phase_in s) at_q ∙ held) in
    let entry : r.entry ≡ entry_for s q = sym w.open_in.entry ∙ ap (entry_for s) at_q in
    let long : hold_of t r ≡ t - g =
    ap₂ (λ grant end. cond (happened grant) (tick_or end t - tick_or grant t) 0) w.grant_at w.open_in.no_end in
    let since : since_in s q ≡ g = ap (since_in s) (sym at_q) ∙ w.since in
    omega (arith, ap length-of entry, keeps found.0 found.1.listed (ap group entry ∙ in_group))

-- ---- the state's unsatisfied requests

-- A wait that is over does not grow, and one that is not over is a wait in the state.
wait_later : (bound : ℕ → ℕ) (group : ℕ → Bool) (s : State) (n t : ℕ) → WaitsTo bound group s t → (r : Request)
    → group r.entry ≡ true → Tied s r → wait_of n r ≤ bound r.entry → wait_of t r ≤ bound r.entry
wait_later bound group s n t to r g = go r.grant r.end
  where
    go : (grant end : When) → Tied s (timed r grant end) → wait_of n (timed r grant end) ≤ bound r.entry
        → wait_of t (timed r grant end) ≤ bound r.entry
    go never never (waits w) before =
        let late = to r.processor w.open_in.below w.unsatisfied (ap group w.open_in.entry ∙ g) in
        omega (arith, late, w.since, ap bound w.open_in.entry)
    go never never (holds k w) before = absurd (never_is_not_at k w.grant_at)
    go never never (ended d e) before = absurd (never_is_not_at d e)
    go never (at d) tied before = before
    go (at k) never tied before = before
    go (at k) (at d) tied before = before

pub waits_later : (bound : ℕ → ℕ) (group : ℕ → Bool) (s : State) (n t : ℕ) (h : History) → Related s h
    → WaitsTo bound group s t → Waits bound group n h → Waits bound group t h
waits_later bound group s n t h rel to before i l g =
    wait_later bound group s n t to (request h i) g (rel.each i l) (before i l g)
