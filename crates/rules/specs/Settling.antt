-- The four steps of settling. Specification, section 5; clause 5.8 lists where they depart from their source.
use Rattle.std.specs.Prelude.{ℕ, Bool, not, ◌&&◌, ◌||◌, eqb}
use Rattle.masks.specs.Sets.{bit, mask_of}
use Rattle.plans.specs.Entries.{max_processors}
use Rattle.rules.specs.Requests.{Facts, is_writer, is_earlier, against, holding_read, holding_write, entitled_read}
use Rattle.rules.specs.Requests.{entitled_write, waiting_read, waiting_write, unsatisfied_write}
use Rattle.rules.specs.declared.states.Phases.{Phases}

-- The processors that pass the test begin to hold, whether they were waiting or entitled.
abbrev pub hold : Phases → (ℕ → Bool) → Phases
hold ph test =
    record {
      waiting = mask_of max_processors (λ p. bit ph.waiting p && not (test p));
      entitled = mask_of max_processors (λ p. bit ph.entitled p && not (test p));
      holding = mask_of max_processors (λ p. bit ph.holding p || test p);
    }

-- The processors that pass the test go from waiting to entitled.
abbrev pub entitle : Phases → (ℕ → Bool) → Phases
entitle ph test =
    record {
      waiting = mask_of max_processors (λ p. bit ph.waiting p && not (test p));
      entitled = mask_of max_processors (λ p. bit ph.entitled p || test p);
      holding = ph.holding;
    }

-- Clause 5.3, step 1: a read with which no holding write conflicts begins to hold if it is entitled, or if it waits and
-- no entitled write conflicts either.
unfoldable pub test1 : Facts → Phases → ℕ → Bool
test1 f ph p =
    (entitled_read f ph p || (waiting_read f ph p && not (against f p (entitled_write f ph))))
    && not (against f p (holding_write f ph))

unfoldable pub step1 : Facts → Phases → Phases
step1 f ph = hold ph (test1 f ph)

-- Clause 5.4, step 2: a waiting write becomes entitled if none of these conflicts: an earlier unsatisfied write, a
-- holding write, an entitled read.
unfoldable pub test2 : Facts → Phases → ℕ → Bool
test2 f ph p =
    waiting_write f ph p
    && (not (against f p (λ q. is_earlier f q p && unsatisfied_write f ph q))
    && (not (against f p (holding_write f ph)) && not (against f p (entitled_read f ph))))

unfoldable pub step2 : Facts → Phases → Phases
step2 f ph = entitle ph (test2 f ph)

-- Clause 5.5, step 3: an entitled write begins to hold if no holding read conflicts.
unfoldable pub test3 : Facts → Phases → ℕ → Bool
test3 f ph p = entitled_write f ph p && not (against f p (holding_read f ph))

unfoldable pub step3 : Facts → Phases → Phases
step3 f ph = hold ph (test3 f ph)

-- Clause 5.6, step 4: a waiting read becomes entitled if a holding write conflicts and no entitled write does.
unfoldable pub test4 : Facts → Phases → ℕ → Bool
test4 f ph p = waiting_read f ph p && (against f p (holding_write f ph) && not (against f p (entitled_write f ph)))

unfoldable pub step4 : Facts → Phases → Phases
step4 f ph = entitle ph (test4 f ph)

-- Clause 5.2: the four steps in this order, each on the phases that the one before it left.
unfoldable pub settled : Facts → Phases → Phases
settled f ph = step4 f (step3 f (step2 f (step1 f ph)))

-- Clause 5.1: processor p's new request is a read, and no entitled or holding write conflicts with it. Step 1 then lets
-- it hold. If it already held before step 1, nothing would change (proofs/AtOnce).
unfoldable pub holds_at_once : Facts → Phases → ℕ → Bool
holds_at_once f ph p =
    not (is_writer f p) && (not (against f p (entitled_write f ph)) && not (against f p (holding_write f ph)))

-- Clause 5.1: the phases in which p's new request waits, changed so that it holds if it may hold at once.
unfoldable pub admitted : Facts → Phases → ℕ → Phases
admitted f ph p = hold ph (λ q. eqb q p && holds_at_once f ph p)
