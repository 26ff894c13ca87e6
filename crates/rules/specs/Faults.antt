-- When a call is refused, and with which number: 10 to 15, and 17. The phases are those of the requests that count.
-- Specification, section 4.
use Rattle.std.specs.Prelude.{ℕ, not, ◌&&◌, leb, ltb}
use Rattle.masks.specs.Sets.{bit}
use Rattle.refusals.specs.Due.{due, first_of}
use Rattle.rules.specs.declared.states.Phases.{Phases}
use Rattle.rules.specs.Requests.{unsatisfied, active}
use Rattle.rules.specs.declared.states.Terms.{Terms}
use Rattle.rules.specs.CountedRequests.{has_processor}

-- Clauses 1.4 and 4.5: 10 for a tick below the last accepted one or above the largest.
abbrev pub tick_fault : ℕ → ℕ → ℕ
tick_fault last t = due (leb last t && leb t 1099511627775) 10

-- Clause 4.5: 11 for a processor that is not the plan's.
abbrev pub processor_fault : Terms → ℕ → ℕ
processor_fault terms p = due (has_processor terms p) 11

-- Clauses 4.5 and 8.2: an issue: 10, 11, then 12 for an entry that is not counted, 13 for an active request of p.
unfoldable pub issue_fault : Terms → ℕ → Phases → ℕ → ℕ → ℕ → ℕ
issue_fault terms last ph p e t =
    first_of (tick_fault last t)
    (first_of (processor_fault terms p) (first_of (due (ltb e terms.count) 12) (due (not (active ph p)) 13)))

-- Clauses 4.5 and 8.2: a call after which p's request leaves: 10, 11, then 14 for no active request of p; then the
-- number that is due for the phase of the request.
abbrev pub take_fault : Terms → ℕ → Phases → ℕ → ℕ → ℕ → ℕ
take_fault terms last ph p t phaseFault =
    first_of (tick_fault last t) (first_of (processor_fault terms p) (first_of (due (active ph p) 14) phaseFault))

-- Clauses 4.5 and 8.2: a completion: 15 for a request that is unsatisfied.
unfoldable pub complete_fault : Terms → ℕ → Phases → ℕ → ℕ → ℕ
complete_fault terms last ph p t = take_fault terms last ph p t (due (not (unsatisfied ph p)) 15)

-- Clauses 4.5 and 8.2: a withdrawal: 17 for a request that holds.
unfoldable pub withdraw_fault : Terms → ℕ → Phases → ℕ → ℕ → ℕ
withdraw_fault terms last ph p t = take_fault terms last ph p t (due (not (bit ph.holding p)) 17)

-- Clauses 4.5 and 8.2: a handover to entry e: 10, 11, 12, then as a completion 14 and 15.
unfoldable pub handover_fault : Terms → ℕ → Phases → ℕ → ℕ → ℕ → ℕ
handover_fault terms last ph p e t =
    first_of (tick_fault last t)
    (first_of (processor_fault terms p)
    (first_of (due (ltb e terms.count) 12) (first_of (due (active ph p) 14) (due (not (unsatisfied ph p)) 15))))
