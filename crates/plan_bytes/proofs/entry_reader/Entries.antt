-- An entry's bytes: the parts that the code reads are those of the definition. Assumes nothing.
use Prim.Native.Nat.{ℕ}
use mathlib.Core.Path.{◌≡◌}
use mathlib.Core.List.{List}
use lib.Dec.{lit≤}
use lib.ListN.{get_or, take, drop}
use Rattle.encoding.specs.Numbers.{number}
use Rattle.encoding.proofs.Numbers.{part_number}
use Rattle.plans.specs.Reading.{entry_in}

pub entry_parts : (s : List ℕ) (x y : ℕ) → x ≡ number (take 8 (take 8 (drop 1 s))) → y
    ≡ number (take 8 (take 2 (drop 9 s)))
    → record { kind = get_or s 0 0; set = x; length = y } ≡ entry_in s
unfolding entry_in
entry_parts s x y set length = rw (set, length, part_number 1 8 s (lit≤ tt), part_number 9 2 s (lit≤ tt))
