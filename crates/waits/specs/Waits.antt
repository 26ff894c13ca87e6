-- The processors that a request waits for directly. Specification, section 7.
use Rattle.std.specs.Prelude.{ℕ, Bool, cond, ◌&&◌, ◌||◌, ltb}
use Rattle.masks.specs.Sets.{mask_of}
use Rattle.plans.specs.Entries.{max_processors}
use Rattle.rules.specs.declared.states.Phases.{Phases}
use Rattle.rules.specs.Requests.{Facts, active, is_earlier, is_writer, conflicts, holding_read, holding_write, entitled_read}
use Rattle.rules.specs.Requests.{entitled_write, waiting_read, waiting_write}

-- Clause 7.2: processor p waits directly for q, whose request conflicts with its own: the first four rows of the table.
-- The phases are those of the requests that count.
unfoldable pub waits_in : Facts → Phases → ℕ → ℕ → Bool
waits_in f ph p q =
    (entitled_read f ph p && (holding_write f ph q && conflicts f p q))
    || ((waiting_read f ph p && (entitled_write f ph q && conflicts f p q))
    || ((entitled_write f ph p && (holding_read f ph q && conflicts f p q))
    || (waiting_write f ph p && ((is_earlier f q p && (active ph q && is_writer f q)) && conflicts f p q))))

-- Clause 7.2: the mask of all that p waits for. A number past the last processor waits for nobody.
abbrev pub waits_of : Facts → Phases → ℕ → ℕ
waits_of f ph p = cond (ltb p max_processors) (mask_of max_processors (waits_in f ph p)) 0
