-- Which requests of a state count, on any state value. Specification, clauses 1.5 and 4.10.
use Rattle.std.specs.Prelude.{ℕ, Bool, not, ◌&&◌, ◌||◌, List, ltb, get_or}
use Rattle.masks.specs.Sets.{bit, mask_of}
use Rattle.plans.specs.Entries.{max_processors}
use Rattle.rules.specs.declared.states.Phases.{Phases}
use Rattle.rules.specs.declared.states.Terms.{Terms}

-- Clause 4.10: processor p is one of the plan's, and a state has a place for it.
abbrev pub has_processor : Terms → ℕ → Bool
has_processor terms p = ltb p max_processors && ltb p terms.processors

-- Clause 4.10: the processor and the entry of p's request are in the plan. Otherwise the request is ignored.
abbrev pub in_plan : Terms → List ℕ → ℕ → Bool
in_plan terms requested p = has_processor terms p && ltb (get_or requested p 0) terms.count

-- Clauses 4.1 and 4.10: the phase of p's request. Holding counts before entitled, and entitled before waiting.
unfoldable pub is_holding : Terms → List ℕ → Phases → ℕ → Bool
is_holding terms requested ph p = in_plan terms requested p && bit ph.holding p

unfoldable pub is_entitled : Terms → List ℕ → Phases → ℕ → Bool
is_entitled terms requested ph p = in_plan terms requested p && (bit ph.entitled p && not (bit ph.holding p))

unfoldable pub is_waiting : Terms → List ℕ → Phases → ℕ → Bool
is_waiting terms requested ph p =
    in_plan terms requested p && (bit ph.waiting p && not (bit ph.entitled p || bit ph.holding p))

-- Clause 4.10: the phases of only the requests that count. Calls and queries use them.
unfoldable pub cleaned : Terms → List ℕ → Phases → Phases
cleaned terms requested ph =
    record {
      waiting = mask_of max_processors (is_waiting terms requested ph);
      entitled = mask_of max_processors (is_entitled terms requested ph);
      holding = mask_of max_processors (is_holding terms requested ph);
    }
