-- The entries of a plan as a loop over all of them reads them, and the board made of them. Assumes nothing.
use mathlib.Core.Path.{◌≡◌, refl, sym, ap, ◌∙◌}
use mathlib.Core.Bool.{Bool, true, false, cond, ◌&&◌}
use mathlib.Core.List.{List}
use Prim.Native.Nat.{ℕ, ◌+◌, ◌<◌}
use lib.Dec.{ltb}
use lib.ListN.{get_or}
use borrow.Author.Tests.{ltb-true, lt-ltb}
use Rattle.masks.specs.Sets.{added, mask_of}
use Rattle.masks.proofs.Masks.{mask_next}
use Rattle.plans.specs.declared.Plan.{Plan}
use Rattle.plans.specs.Entries.{max_entries, is_write, blank_entry, entry_at}
use Rattle.conflicts.specs.declared.Conflicts.{Conflicts}
use Rattle.conflicts.specs.Conflict.{conflicts_of}
use Rattle.conflicts.proofs.WidenedSets.{entry_at_law}
use Rattle.rules.specs.declared.states.Board.{Board}
use Rattle.boards.specs.Fresh.{board_of}

-- Which counted entries are writes.
abbrev pub writes_in : Plan → ℕ → Bool
writes_in p i = ltb i p.count && is_write (entry_at p i)

write_at_entry : (p : Plan) (i : ℕ) → (ltb i p.count && is_write (get_or p.entries i blank_entry)) ≡ writes_in p i
write_at_entry p i = go (ltb i p.count) refl
  where
    go : (t : Bool) → ltb i p.count ≡ t → (t && is_write (get_or p.entries i blank_entry))
        ≡ (t && is_write (entry_at p i))
    go true e = ap is_write (sym (entry_at_law p i (ltb-true i p.count e)))
    go false e = refl

pub writes_more : (p : Plan) (i out place next : ℕ) → i < max_entries → out ≡ mask_of i (writes_in p)
    → place ≡ cond (ltb i p.count && is_write (get_or p.entries i blank_entry)) i max_entries
    → next ≡ cond (ltb place max_entries) (added out place) out → next ≡ mask_of (i + 1) (writes_in p)
writes_more p i out place next l eo ep en =
    mask_next i (writes_in p) out next here (en ∙ ap (λ (x : ℕ). cond (ltb x max_entries) (added out x) out) ep
    ∙ placed here) eo (write_at_entry p i)
  where
    here : Bool
    here = ltb i p.count && is_write (get_or p.entries i blank_entry)

    placed : (t : Bool) → cond (ltb (cond t i max_entries) max_entries) (added out (cond t i max_entries)) out
        ≡ cond t (added out i) out
    placed true = ap (λ t. cond t (added out i) out) (lt-ltb i max_entries l)
    placed false = refl

pub board_made : (p : Plan) (writes : ℕ) (lengths : List ℕ) (worked : Conflicts) → lengths ≡ (board_of p).lengths → worked
    ≡ conflicts_of p
    → writes ≡ (board_of p).terms.writes
    → ◌≡◌ {A = Board}
    (record {
      terms = record { processors = p.processors; count = p.count; writes = writes };
      lengths = lengths;
      names = worked.names;
      widened = worked.widened;
      rows = worked.rows;
    })
    (board_of p)
unfolding board_of
board_made p writes lengths worked el ec ew =
    λ i. record {
      terms = record { processors = p.processors; count = p.count; writes = ew i };
      lengths = el i;
      names = (ec i).names;
      widened = (ec i).widened;
      rows = (ec i).rows;
    }
