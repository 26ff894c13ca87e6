-- The two changes that calls are made of: a request enters (`put_in`) or leaves (`taken_out`). Specification, section 4.
use Rattle.std.specs.Prelude.{ℕ, Bool, cond, not, ◌&&◌, ◌||◌, List, eqb, get_or}
use Rattle.masks.specs.Sets.{bit, mask_of}
use Rattle.plans.specs.Entries.{max_processors}
use Rattle.masks.specs.Tabulation.{tabulate}
use Rattle.rules.specs.declared.states.Phases.{Phases}
use Rattle.rules.specs.Requests.{active}

-- Clauses 4.4 and 5.1: the phases after processor p's request enters. It waits.
unfoldable pub put_in : Phases → ℕ → Phases
put_in ph p =
    record {
      waiting = mask_of max_processors (λ q. bit ph.waiting q || eqb q p);
      entitled = ph.entitled;
      holding = ph.holding;
    }

-- Clause 4.2: who is earlier once p's request enters last: all active requests are earlier than it, and it is earlier
-- than none.
unfoldable pub put_last : List ℕ → Phases → ℕ → List ℕ
put_last earlier ph p =
    tabulate max_processors
    (λ q. cond (eqb q p) (mask_of max_processors (active ph))
    (mask_of max_processors (λ r. bit (get_or earlier q 0) r && not (eqb r p))))

-- Clause 4.4: the phases after processor p's request leaves, whatever its phase was.
unfoldable pub taken_out : Phases → ℕ → Phases
taken_out ph p =
    record {
      waiting = mask_of max_processors (λ q. bit ph.waiting q && not (eqb q p));
      entitled = mask_of max_processors (λ q. bit ph.entitled q && not (eqb q p));
      holding = mask_of max_processors (λ q. bit ph.holding q && not (eqb q p));
    }

-- Clause 4.7: processor p began to hold. In `before` the request has entered or left, and `after` is settled.
abbrev pub began : Phases → Phases → ℕ → Bool
began before after p = bit after.holding p && not (bit before.holding p)

-- Clause 4.7: processor p became entitled, and still is once all is settled.
abbrev pub became : Phases → Phases → ℕ → Bool
became before after p = bit after.entitled p && not (bit before.entitled p)

-- Clause 4.8: the call's tick for those that began to hold in it, and the old tick for all others.
unfoldable pub stamped : List ℕ → Phases → Phases → ℕ → List ℕ
stamped since before after t = tabulate max_processors (λ p. cond (began before after p) t (get_or since p 0))
