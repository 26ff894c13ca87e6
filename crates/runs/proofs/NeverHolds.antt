-- A withdrawn request never holds: it ends without a grant, and no later call grants it. Assumes nothing.
use Prim.Native.Nat.{ℕ, ◌<◌}
use mathlib.Core.Path.{◌≡◌, refl, sym, ap, subst, ◌∙◌}
use mathlib.Core.Bool.{Bool, true, false, cond, not, ◌&&◌, and-false, false≢true}
use mathlib.Core.List.{List, [], ◌∷◌, ◌++◌, map}
use native.Mathlib.Decide.{ℕ_discrete}
use native.Mathlib.Omega.{arith}
use lib.Dec.{eqb, lit<}
use lib.ListN.{length, length-map, get_or, get_or-append}
use borrow.Author.Tests.{eq-eqb, ne_eqb, not-true}
use Rattle.masks.specs.Sets.{bit}
use Rattle.refusals.specs.Due.{due}
use Rattle.refusals.proofs.Numbers.{due_accepted}
use Rattle.plans.specs.declared.Plan.{Plan}
use Rattle.plans.specs.Acceptance.{plan_fault}
use Rattle.plans.specs.Figures.{longest_read, longest_write}
use Rattle.rules.specs.declared.calls.Call.{Call}
use Rattle.rules.specs.CallNumbers.{tick_of}
use Rattle.rules.specs.Replies.{Response, refused_with}
use Rattle.rules.specs.declared.states.Board.{Board}
use Rattle.rules.specs.declared.states.State.{State}
use Rattle.rules.specs.Faults.{withdraw_fault}
use Rattle.rules.specs.Calls.{phases_of, taken_state, settled_done, left, withdrawn, answered}
use Rattle.boards.specs.Fresh.{board_of, fresh_state}
use Rattle.runs.specs.Events.{Event, events, state_after}
use Rattle.runs.specs.History.{never, at, happened, Request, History, Act, puts, takes, acts_of, arrival}
use Rattle.runs.specs.History.{acting, all_acting, granting, ending, counting, counted_in, nothing}
use Rattle.runs.specs.Claim.{history_of, request, every_entry}
use Rattle.runs.specs.Withdrawals.{WithdrawnNeverHolds}
use Rattle.runs.proofs.history.Cases.{get_d_map, length_more}
use Rattle.runs.proofs.history.Tied.{Tied, waits, holds, ended, never_is_not_at}
use Rattle.runs.proofs.history.Verdicts.{phase_taken}
use Rattle.runs.proofs.history.Runs.{run_to, reached_fresh}
use Rattle.runs.proofs.refinement.State.{held_bit}
use Rattle.runs.proofs.refinement.Clean.{Clean, clean_phases}
use Rattle.runs.proofs.refinement.Arbiter.{plan_arbiter}
use Rattle.runs.proofs.refinement.WholeRuns.{every_length}

-- ---- a request that has ended stays as it is

granting_ended : (g t d : ℕ) (r : Request) → r.end ≡ at d → granting g t r ≡ r
granting_ended g t d r e =
    ap (λ m. cond (not (happened r.grant) && (not (happened m) && bit g r.processor))
    (record { processor = r.processor; entry = r.entry; issued = r.issued; grant = at t; end = r.end }) r) e
    ∙ ap (λ u. cond u
    (record { processor = r.processor; entry = r.entry; issued = r.issued; grant = at t; end = r.end }) r)
    (and-false (not (happened r.grant)))

ending_ended : (p t d : ℕ) (r : Request) → r.end ≡ at d → ending p t r ≡ r
ending_ended p t d r e =
    ap (λ m. cond (eqb r.processor p && not (happened m))
    (record { processor = r.processor; entry = r.entry; issued = r.issued; grant = r.grant; end = at t }) r) e
    ∙ ap (λ u. cond u
    (record { processor = r.processor; entry = r.entry; issued = r.issued; grant = r.grant; end = at t }) r)
    (and-false (eqb r.processor p))

abbrev blank : Request
blank = arrival 0 0 0

-- Request i is listed in both lists, and is the same in both.
record Stays (i : ℕ) (rs rs' : List Request) : Type 0 where
  listed : i < length rs'
  same : get_or rs' i blank ≡ get_or rs i blank

module _ (i d : ℕ) where
  acting_stays : (t : ℕ) (a : Act) (rs : List Request) → i < length rs → (get_or rs i blank).end ≡ at d
      → Stays i rs (acting t a rs)
  acting_stays t (puts p e) rs l k =
      record {
        listed = omega (arith, length_more rs (arrival p e t));
        same = get_or-append rs (arrival p e t ∷ []) blank i l;
      }
  acting_stays t (takes p) rs l k =
      record {
        listed = omega (arith, length-map rs (ending p t));
        same = get_d_map (ending p t) rs i blank blank l ∙ ending_ended p t d (get_or rs i blank) k;
      }

  all_stay : (t : ℕ) (acts : List Act) (rs : List Request) → i < length rs → (get_or rs i blank).end ≡ at d
      → Stays i rs (all_acting t acts rs)
  unfolding all_acting
  all_stay t [] rs l k = record { listed = l; same = refl }
  all_stay t (a ∷ later) rs l k =
      let one = acting_stays t a rs l k in
      let more = all_stay t later (acting t a rs) one.listed (ap (λ r. r.end) one.same ∙ k) in
      record { listed = more.listed; same = more.same ∙ one.same }

  granting_stays : (g t : ℕ) (rs : List Request) → i < length rs → (get_or rs i blank).end ≡ at d
      → Stays i rs (map (granting g t) rs)
  granting_stays g t rs l k =
      record {
        listed = omega (arith, length-map rs (granting g t));
        same = get_d_map (granting g t) rs i blank blank l ∙ granting_ended g t d (get_or rs i blank) k;
      }

  counting_stays : (h : History) (c : Call) (reply : Response) → i < length h.requests
      → (request h i).end ≡ at d → Stays i h.requests (counting h c reply).requests
  counting_stays h c reply l k = go (eqb reply.number 0)
    where
      counted : History
      counted =
          record {
            requests = map (granting reply.granted (tick_of c)) (all_acting (tick_of c) (acts_of c) h.requests);
            last = tick_of c;
          }

      go : (u : Bool) → Stays i h.requests (cond u counted h).requests
      go true =
          let acted = all_stay (tick_of c) (acts_of c) h.requests l k in
          let given = granting_stays reply.granted (tick_of c) (all_acting (tick_of c) (acts_of c) h.requests)
          acted.listed (ap (λ r. r.end) acted.same ∙ k) in
          record { listed = given.listed; same = given.same ∙ acted.same }
      go false = record { listed = l; same = refl }

  run_stays : (h : History) (es : List Event) → i < length h.requests → (request h i).end ≡ at d
      → request (counted_in h es) i ≡ request h i
  unfolding counted_in
  run_stays h [] l k = refl
  run_stays h (e ∷ later) l k =
      let one = counting_stays h e.call e.reply l k in
      run_stays (counting h e.call e.reply) later one.listed (ap (λ r. r.end) one.same ∙ k) ∙ one.same

-- ---- calls, and then more calls

along : (b : Board) (before after : List Call) (s : State) (h : History)
    → counted_in h (events b s (before ++ after))
    ≡ counted_in (counted_in h (events b s before)) (events b (state_after b s before) after)
unfolding events counted_in state_after
along b [] after s h = refl
along b (c ∷ later) after s h = along b later after (answered b s c).state (counting h c (answered b s c).reply)

-- ---- an accepted withdrawal

-- No number is due for an accepted withdrawal.
withdrawal_accepted : (b : Board) (s : State) (q t : ℕ) → (withdrawn b s q t).reply.number ≡ 0
    → withdraw_fault b.terms s.last (phases_of b s) q t ≡ 0
unfolding withdrawn left
withdrawal_accepted b s q t ok = go (ℕ_discrete number 0)
  where
    number : ℕ
    number = withdraw_fault b.terms s.last (phases_of b s) q t

    go : Dec (number ≡ 0) → number ≡ 0
    go (yes none) = none
    go (no due) = absurd (due (sym (ap (λ u. (cond u (settled_done b (taken_state b s q t) 0)
        (record { reply = refused_with number; state = s })).reply.number) (ne_eqb number 0 due)) ∙ ok))

-- Its processor's request does not hold.
withdrawn_unheld : (b : Board) (s : State) (q t : ℕ) → Clean b s → (withdrawn b s q t).reply.number ≡ 0
    → bit s.phases.holding q ≡ false
unfolding withdraw_fault
withdrawn_unheld b s q t clean ok =
    let due-none = phase_taken b.terms s.last (phases_of b s) q t _ (withdrawal_accepted b s q t ok) in
    sym (ap (λ ph. bit ph.holding q) (clean_phases b s clean))
    ∙ not-true (bit (phases_of b s).holding q)
    (due_accepted (not (bit (phases_of b s).holding q)) 17 (lit< tt) due-none)

-- A request that is unended and does not hold has no grant.
open_unheld : (s : State) (r : Request) → Tied s r → r.end ≡ never → bit s.phases.holding r.processor ≡ false
    → r.grant ≡ never
open_unheld s r (waits w) e unheld = w.no_grant
open_unheld s r (holds g w) e unheld = absurd (false≢true (sym unheld ∙ held_bit s.phases r.processor w.held))
open_unheld s r (ended d k) e unheld = absurd (never_is_not_at d (sym e ∙ k))

-- What the withdrawal leaves of the request.
ends_here : (q t : ℕ) (r : Request) → r.processor ≡ q → r.end ≡ never
    → ((ending q t r).grant ≡ r.grant) × ((ending q t r).end ≡ at t)
ends_here q t r same unended =
    let test : (eqb r.processor q && not (happened r.end)) ≡ true =
    ap (λ u. u && not (happened r.end)) (eq-eqb r.processor q same) ∙ ap (λ m. not (happened m)) unended in
    (rw test, rw test)

module _ (h : History) (q t i g : ℕ) (l : i < length h.requests) (same : (request h i).processor ≡ q)
    (unended : (request h i).end ≡ never) where
  -- The withdrawal counted: the request ends, and the grants of the call pass it by.
  gone : get_or (map (granting g t) (map (ending q t) h.requests)) i blank ≡ ending q t (request h i)
  gone =
      let there : i < length (map (ending q t) h.requests) = omega (arith, length-map h.requests (ending q t)) in
      let ends : get_or (map (ending q t) h.requests) i blank ≡ ending q t (request h i) =
      get_d_map (ending q t) h.requests i blank blank l in
      get_d_map (granting g t) (map (ending q t) h.requests) i blank blank there
      ∙ granting_ended g t t (get_or (map (ending q t) h.requests) i blank)
      (ap (λ r. r.end) ends ∙ (ends_here q t (request h i) same unended).1)
      ∙ ends

-- Clause 6.3, for every accepted plan, every list of calls before the withdrawal and every list after it.
pub withdrawn_never_holds : (p : Plan) → plan_fault p ≡ 0 → (before : List Call) (q t : ℕ) (after : List Call)
    → WithdrawnNeverHolds p before q t after
unfolding history_of events counted_in all_acting
withdrawn_never_holds p taken before q t after i l same unended ok =
    let b : Board = board_of p in
    let A = plan_arbiter p taken every_entry (λ i j g x. refl) (longest_read p) (longest_write p) (every_length p taken) in
    let s : State = state_after b fresh_state before in
    let h : History = counted_in nothing (events b fresh_state before) in
    let r = run_to b every_entry (longest_read p) (longest_write p) A before fresh_state nothing
    (reached_fresh b every_entry (longest_read p) (longest_write p) A) in
    let reply : Response = (answered b s (Call.Withdraw q t)).reply in
    let next : History = counting h (Call.Withdraw q t) reply in
    let counted : next ≡ record {
      requests = map (granting reply.granted t)
          (map (ending q t) h.requests);
      last = t;
    } =
    ap (λ u. cond u (record {
      requests = map (granting reply.granted t)
          (map (ending q t) h.requests);
      last = t;
    }) h) (eq-eqb reply.number 0 ok) in
    let here : request next i ≡ ending q t (request h i) =
    ap (λ x. request x i) counted ∙ gone h q t i reply.granted l same unended in
    let listed : i < length next.requests =
    subst (λ x. i < length x.requests) (sym counted)
    (omega (
      arith,
      length-map (map (ending q t) h.requests)
          (granting reply.granted t),
      length-map h.requests (ending q t),
    )) in
    let unheld : bit s.phases.holding (request h i).processor ≡ false =
    ap (λ (x : ℕ). bit s.phases.holding x) same ∙ withdrawn_unheld b s q t r.clean ok in
    let no_grant : (request h i).grant ≡ never = open_unheld s (request h i) (r.related.each i l) unended unheld in
    let its = ends_here q t (request h i) same unended in
    let at_end : (request next i).end ≡ at t = ap (λ x. x.end) here ∙ its.1 in
    let last : request (counted_in nothing (events b fresh_state (before ++ Call.Withdraw q t ∷ after))) i
    ≡ request next i =
    ap (λ x. request x i) (along b before (Call.Withdraw q t ∷ after) fresh_state nothing)
    ∙ run_stays i t next (events b (answered b s (Call.Withdraw q t)).state after) listed at_end in
    (ap (λ x. x.grant) (last ∙ here) ∙ its.0 ∙ no_grant, ap (λ x. x.end) last ∙ at_end)
