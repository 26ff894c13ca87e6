-- The shape of a plan and of its entries. Specification, sections 1 and 2.
use Rattle.std.specs.Prelude.{ℕ, ◌+◌, ◌*◌, ◌≡◌, Bool, cond, List, [], ◌∷◌, eqb, leb, take, get_or}
use Rattle.plans.specs.declared.Entry.{Entry}
use Rattle.plans.specs.declared.Plan.{Plan}

-- Clauses 1.1 and 2.3: the most processors of a plan. States and masks have a place for each.
abbrev pub max_processors : ℕ
max_processors = 32

-- Clauses 7.4, 7.7 and 9.9: the bytes of a mask, printed or laid out: 2 for a plan with up to 16 processors, and 4 for
-- more.
abbrev pub mask_size_for : ℕ → ℕ
mask_size_for m = cond (leb m 16) 2 4

-- Clauses 1.2 and 2.4: the most resources.
abbrev pub max_resources : ℕ
max_resources = 64

-- Clause 2.5: the most entries.
abbrev pub max_entries : ℕ
max_entries = 64

-- Clauses 1.3 and 2.6: an entry of kind 0 reads, and one of kind 1 writes.
abbrev pub is_read : Entry → Bool
is_read e = eqb e.kind 0

abbrev pub is_write : Entry → Bool
is_write e = eqb e.kind 1

-- Clause 2.2: the bytes of the three counts.
abbrev pub counts_size : ℕ
counts_size = 3

-- Clause 2.6: the bytes of an entry's kind, names and length.
abbrev pub entry_size : ℕ
entry_size = 11

-- Clause 2.6: the bytes of an entry, and the most that one takes.
unfoldable pub entry_size_of : Entry → ℕ
entry_size_of e = entry_size

abbrev pub largest_entry : ℕ
largest_entry = entry_size

-- The bytes of entries one after the other.
unfoldable pub section_size : List Entry → ℕ
section_size [] = 0
section_size (e ∷ later) = entry_size_of e + section_size later

-- Clause 2.10: the counted entries. The others are ignored.
abbrev pub counted_entries : Plan → List Entry
counted_entries p = take p.count p.entries

-- Clause 2.6: the bytes of a plan, and the most that one takes.
abbrev pub plan_size : Plan → ℕ
plan_size p = counts_size + section_size (counted_entries p)

abbrev pub max_plan_size : ℕ
max_plan_size = counts_size + largest_entry * max_entries

-- The blank entry fills the places past the count.
abbrev pub blank_entry : Entry
blank_entry = record { kind = 0; set = 0; length = 0 }

-- Entry i of the plan. Past the count it is the blank one.
abbrev pub entry_at : Plan → ℕ → Entry
entry_at p i = get_or (counted_entries p) i blank_entry

-- Clause 2.11: the two plans are the same.
pub record Same (p q : Plan) : Type 0 where
  pub processors : p.processors ≡ q.processors
  pub resources : p.resources ≡ q.resources
  pub count : p.count ≡ q.count
  pub entries : counted_entries p ≡ counted_entries q
