-- What the list shows for a processor in addition to its direct waits. The phases are those of the requests that count.
-- Specification, section 7.
use Rattle.std.specs.Prelude.{ℕ, ◌-◌, min, cond, List, get_or}
use Rattle.masks.specs.Sets.{bit}
use Rattle.rules.specs.declared.states.Phases.{Phases}
use Rattle.board_list.specs.declared.phases.Phase.{Phase}
use Rattle.rules.specs.Requests.{unsatisfied, active}

-- Clause 7.1: the numbers of the states.
abbrev pub phase_number : Phase → ℕ
phase_number Phase.Idle = 0
phase_number Phase.Waiting = 1
phase_number Phase.Entitled = 2
phase_number Phase.Holding = 3

-- Clause 7.1: the state of processor p as a number: 0 idle, 1 waiting, 2 entitled, 3 holding.
unfoldable pub state_in : Phases → ℕ → ℕ
state_in ph p = cond (bit ph.holding p) 3 (cond (bit ph.entitled p) 2 (cond (bit ph.waiting p) 1 0))

-- Clause 7.8: the entry of p's request, or 255 if p is idle.
unfoldable pub entry_shown : Phases → List ℕ → ℕ → ℕ
entry_shown ph entry p = cond (active ph p) (get_or entry p 0) 255

-- Clauses 7.8 and 4.10: the ticks that p has waited: from the tick of the issue to the last accepted tick, at most
-- 4,294,967,295; 0 if that would run backwards, and 0 unless p's request is unsatisfied. For an unsatisfied request,
-- the state contains the tick of the issue.
unfoldable pub waited_in : Phases → ℕ → List ℕ → ℕ → ℕ
waited_in ph last since p = cond (unsatisfied ph p) (min 4294967295 (last - get_or since p 0)) 0
