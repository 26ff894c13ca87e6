-- The requests of all processors. Specification, section 4.
use Rattle.std.specs.Prelude.{ℕ, Bool, not, ◌&&◌, ◌||◌, List, get_or}
use Rattle.masks.specs.Sets.{bit, some}
use Rattle.plans.specs.Entries.{max_processors}
use Rattle.rules.specs.declared.states.Phases.{Phases}

-- What settling uses and does not change: the conflict rows of the entries, which entries are writes, the entry of each
-- processor's request, and the set of processors whose requests are earlier.
pub record Facts : Type 0 where
  pub rows : List ℕ
  pub writes : ℕ
  pub requested : List ℕ
  pub earlier : List ℕ

abbrev pub facts_by : List ℕ → ℕ → List ℕ → List ℕ → Facts
facts_by rows writes requested earlier = record
    { rows = rows; writes = writes; requested = requested; earlier = earlier }

-- The entry of processor p's request, and whether it is a write.
abbrev pub entry_of : Facts → ℕ → ℕ
entry_of f p = get_or f.requested p 0

abbrev pub is_writer : Facts → ℕ → Bool
is_writer f p = bit f.writes (entry_of f p)

-- Clause 4.2: processor q's request is earlier than p's, in the order of the calls that issued them.
abbrev pub is_earlier : Facts → ℕ → ℕ → Bool
is_earlier f q p = bit (get_or f.earlier p 0) q

-- Clause 5.7: the requests of p and q conflict if their entries do.
abbrev pub conflicts : Facts → ℕ → ℕ → Bool
conflicts f p q = bit (get_or f.rows (entry_of f p) 0) (entry_of f q)

-- Some request that passes the test conflicts with p's.
abbrev pub against : Facts → ℕ → (ℕ → Bool) → Bool
against f p test = some max_processors (λ q. test q && conflicts f p q)

-- Clause 4.1: a request that waits or is entitled is unsatisfied. One that is unsatisfied or holds is active.
abbrev pub unsatisfied : Phases → ℕ → Bool
unsatisfied ph p = bit ph.waiting p || bit ph.entitled p

abbrev pub active : Phases → ℕ → Bool
active ph p = unsatisfied ph p || bit ph.holding p

-- Clause 4.1: the reads and the writes of each phase.
abbrev pub holding_read : Facts → Phases → ℕ → Bool
holding_read f ph q = bit ph.holding q && not (is_writer f q)

abbrev pub holding_write : Facts → Phases → ℕ → Bool
holding_write f ph q = bit ph.holding q && is_writer f q

abbrev pub entitled_read : Facts → Phases → ℕ → Bool
entitled_read f ph q = bit ph.entitled q && not (is_writer f q)

abbrev pub entitled_write : Facts → Phases → ℕ → Bool
entitled_write f ph q = bit ph.entitled q && is_writer f q

abbrev pub waiting_read : Facts → Phases → ℕ → Bool
waiting_read f ph q = bit ph.waiting q && not (is_writer f q)

abbrev pub waiting_write : Facts → Phases → ℕ → Bool
waiting_write f ph q = bit ph.waiting q && is_writer f q

abbrev pub unsatisfied_write : Facts → Phases → ℕ → Bool
unsatisfied_write f ph q = unsatisfied ph q && is_writer f q
