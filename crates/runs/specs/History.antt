-- Whole runs: what is counted, from calls and answers alone. Specification, section 6.
use Rattle.std.specs.Prelude.{ℕ, ◌-◌, Bool, true, false, cond, not, ◌&&◌, List, [], ◌∷◌, ◌++◌, map, eqb}
use Rattle.masks.specs.Sets.{bit}
use Rattle.rules.specs.declared.calls.Call.{Call}
use Rattle.rules.specs.CallNumbers.{tick_of}
use Rattle.rules.specs.Replies.{Response}
use Rattle.runs.specs.Events.{Event}

-- The tick of something that may not have happened.
pub data When : Type 0 where
  never : When
  at : ℕ → When

abbrev pub happened : When → Bool
happened never = false
happened (at t) = true

-- The tick, or the other one if it has not happened.
abbrev pub tick_or : When → ℕ → ℕ
tick_or never other = other
tick_or (at t) other = t

-- Clause 6.2: each accepted issue makes a request, with its processor, its entry and the tick of the issue.
pub record Request : Type 0 where
  pub processor : ℕ
  pub entry : ℕ
  pub issued : ℕ
  pub grant : When
  pub end : When

-- Clause 6.3: it holds from its grant until its end.
abbrev pub holds : Request → Bool
holds r = happened r.grant && not (happened r.end)

-- Clause 6.4: what a call carries out: a request is added or removed.
pub data Act : Type 0 where
  puts : (processor entry : ℕ) → Act
  takes : (processor : ℕ) → Act

-- Clause 6.4: a call counts as its acts, in order: a handover as a completion and an issue.
abbrev pub acts_of : Call → List Act
acts_of (Call.Issue p e t) = puts p e ∷ []
acts_of (Call.Complete p t) = takes p ∷ []
acts_of (Call.Withdraw p t) = takes p ∷ []
acts_of (Call.Handover p e t) = takes p ∷ puts p e ∷ []

-- Clause 6.2: a new request of an issue at tick t.
abbrev pub arrival : ℕ → ℕ → ℕ → Request
arrival p e t = record { processor = p; entry = e; issued = t; grant = never; end = never }

-- Clause 6.3: the request of processor p that has not ended ends at tick t.
abbrev pub ending : ℕ → ℕ → Request → Request
ending p t r =
    cond (eqb r.processor p && not (happened r.end))
    (record { processor = r.processor; entry = r.entry; issued = r.issued; grant = r.grant; end = at t })
    r

-- An act at tick t, on all requests so far.
abbrev pub acting : ℕ → Act → List Request → List Request
acting t (puts p e) rs = rs ++ (arrival p e t ∷ [])
acting t (takes p) rs = map (ending p t) rs

unfoldable pub all_acting : ℕ → List Act → List Request → List Request
all_acting t [] rs = rs
all_acting t (a ∷ later) rs = all_acting t later (acting t a rs)

-- Clause 6.3: the request is granted at tick t if its processor is in the granted mask, and it has neither been granted
-- before nor ended.
abbrev pub granting : ℕ → ℕ → Request → Request
granting granted t r =
    cond (not (happened r.grant) && (not (happened r.end) && bit granted r.processor))
    (record { processor = r.processor; entry = r.entry; issued = r.issued; grant = at t; end = r.end })
    r

-- All requests so far, in order of issue, and the last accepted tick.
pub record History : Type 0 where
  pub requests : List Request
  pub last : ℕ

-- Clauses 6.3 and 6.4: one more call: its acts, and then its grants. A refused call does not count anywhere, and
-- neither does its tick.
abbrev pub counting : History → Call → Response → History
counting h c reply =
    cond (eqb reply.number 0)
    (record {
      requests = map (granting reply.granted (tick_of c)) (all_acting (tick_of c) (acts_of c) h.requests);
      last = tick_of c;
    })
    h

unfoldable pub counted_in : History → List Event → History
counted_in h [] = h
counted_in h (e ∷ later) = counted_in (counting h e.call e.reply) later

-- Clauses 6.1 and 4.3: before the first call there is no request, and the last accepted tick is 0.
abbrev pub nothing : History
nothing = record { requests = []; last = 0 }

-- Clause 6.5: how long the request has held: from its grant to its end, or to the last accepted tick if it has no end.
abbrev pub hold_of : ℕ → Request → ℕ
hold_of last r = cond (happened r.grant) (tick_or r.end last - tick_or r.grant last) 0

-- Clause 6.6: how long it has waited: from its issue to its grant; without a grant to its end; without both to the last
-- accepted tick.
abbrev pub wait_of : ℕ → Request → ℕ
wait_of last r = tick_or r.grant (tick_or r.end last) - r.issued
