-- `store_rows` meets its contract. The invariant: the words of the processors passed are stored. Assumes nothing.
use mathlib.Core.Path.{◌≡◌}
use lib.ListN.{length, get_or}
use lib.Seq.{sets}
use Rattle.queries.specs.Words.{words_of}
use Rattle.reach.proofs.row_words.store_rows.Given as goal

abbrev pub invariant-loop-i : goal.invariant-loop-i
invariant-loop-i l =
    (length l.scratch ≡ length l.initial.scratch)
    × (l.scratch ≡ sets l.initial.scratch 0 (words_of l.size l.i (λ q. get_or l.rows q 0)))
