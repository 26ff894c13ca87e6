-- Masks of processors, as the functions of `settling` use them.
use Rattle.std.specs.Prelude.{ℕ, ◌<◌, ◌^◌, ◌≡◌, true, not, ◌&&◌, List, ltb, length, get_or}
use Rattle.masks.specs.Sets.{bit, mask_of}
use Rattle.plans.specs.Entries.{max_processors, max_entries}
use Rattle.rules.specs.declared.states.Phases.{Phases}
use Rattle.rules.specs.Requests.{Facts, is_earlier, against}

-- There is a row for each entry, and each row has a place for each entry.
pub record Table (rows : List ℕ) : Type 0 where
  pub count : length rows ≡ max_entries
  pub places : (e : ℕ) → get_or rows e 0 < 2 ^ max_entries

-- The processors whose requests' entries have a row. The others' requests are not writes and conflict with none.
abbrev pub known_in : List ℕ → ℕ
known_in requested = mask_of max_processors (λ p. ltb (get_or requested p 0) max_entries)

-- A mask of such processors alone.
pub record Known (requested : List ℕ) (among : ℕ) : Type 0 where
  pub within : among < 2 ^ max_processors
  pub entries : (p : ℕ) → bit among p ≡ true → get_or requested p 0 < max_entries

-- The candidates whose requests conflict with none of the others' requests; and those whose requests conflict with none
-- of the others' earlier requests.
abbrev pub unopposed_in : Facts → ℕ → ℕ → ℕ
unopposed_in f candidates others = mask_of max_processors (λ p. bit candidates p && not (against f p (bit others)))

abbrev pub first_in_line : Facts → ℕ → ℕ → ℕ
first_in_line f candidates others =
    mask_of max_processors (λ p. bit candidates p && not (against f p (λ q. is_earlier f q p && bit others q)))

-- The three masks are those of the phases, cut to the processors.
pub record Follows (ph : Phases) (waiting entitled holding : ℕ) : Type 0 where
  pub waits : waiting ≡ mask_of max_processors (bit ph.waiting)
  pub entitles : entitled ≡ mask_of max_processors (bit ph.entitled)
  pub holds : holding ≡ mask_of max_processors (bit ph.holding)
