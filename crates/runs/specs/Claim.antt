-- Demand 3, stated for whole lists of calls. A reader needs only this page and the definitions that it names.
-- Specification, section 6.
use Rattle.std.specs.Prelude.{ℕ, ◌≤◌, ◌<◌, ◌≡◌, Bool, true, false, cond, List, length, get_or}
use Rattle.plans.specs.declared.Plan.{Plan}
use Rattle.plans.specs.Entries.{is_write, entry_at}
use Rattle.plans.specs.Figures.{read_figure, write_figure}
use Rattle.conflicts.specs.Conflict.{in_conflict}
use Rattle.rules.specs.declared.calls.Call.{Call}
use Rattle.boards.specs.Fresh.{board_of, fresh_state}
use Rattle.runs.specs.Events.{events}
use Rattle.runs.specs.History.{Request, History, nothing, arrival, counted_in, holds, hold_of, wait_of}

-- Clause 6.1: the history of a list of calls, from the fresh arbiter of the plan.
unfoldable pub history_of : Plan → List Call → History
history_of p calls = counted_in nothing (events (board_of p) fresh_state calls)

-- Request i of a history, in order of issue.
abbrev pub request : History → ℕ → Request
request h i = get_or h.requests i (arrival 0 0 0)

-- Clause 6.8: if two requests hold, their entries do not conflict.
abbrev pub Exclusive : Plan → History → Type 0
Exclusive p h =
    (i j : ℕ) → i < length h.requests → j < length h.requests → (i ≡ j → ⊥) → holds (request h i) ≡ true
    → holds (request h j) ≡ true → in_conflict p (request h i).entry (request h j).entry ≡ false

-- Clause 6.5: up to the last accepted tick every holder whose entry is in the group keeps to its length.
abbrev pub KeepToLengths : Plan → (ℕ → Bool) → History → Type 0
KeepToLengths p group h =
    (i : ℕ) → i < length h.requests → group (request h i).entry ≡ true
    → hold_of h.last (request h i) ≤ (entry_at p (request h i).entry).length

-- Clause 6.9: no read of the group has waited longer than the first figure, and no write longer than the second.
abbrev pub WaitAtMost : Plan → (ℕ → Bool) → ℕ → ℕ → History → Type 0
WaitAtMost p group read write h =
    (i : ℕ) → i < length h.requests → group (request h i).entry ≡ true
    → wait_of h.last (request h i) ≤ cond (is_write (entry_at p (request h i).entry)) write read

-- A group of entries that no entry outside it conflicts with.
abbrev pub Closed : Plan → (ℕ → Bool) → Type 0
Closed p group = (i j : ℕ) → group i ≡ true → in_conflict p i j ≡ true → group j ≡ true

-- The lengths of the group's reads are at most Lr, and those of its writes at most Lw.
abbrev pub LengthsAtMost : Plan → (ℕ → Bool) → ℕ → ℕ → Type 0
LengthsAtMost p group Lr Lw =
    (i : ℕ) → i < p.count → group i ≡ true → (entry_at p i).length ≤ cond (is_write (entry_at p i)) Lw Lr

-- Every entry: demand 3 is the claim for this group.
abbrev pub every_entry : ℕ → Bool
every_entry i = true

-- The claim for a group of entries, with figures of its own.
pub record GroupRuns (p : Plan) (group : ℕ → Bool) (read write : ℕ) (calls : List Call) : Type 0 where
  pub exclusive : Exclusive p (history_of p calls)
  pub waits : KeepToLengths p group (history_of p calls) → WaitAtMost p group read write (history_of p calls)

-- Demand 3. Clauses 6.8 and 6.9: conflicting requests never hold together; and if every holder keeps to its length, no
-- read waits longer than the read figure and no write longer than the write figure.
abbrev pub WholeRuns : Plan → List Call → Type 0
WholeRuns p calls = GroupRuns p every_entry (read_figure p) (write_figure p) calls
