-- Names as the fold widens them: by the counted entries, from the last one to the first. Assumes nothing.
use Rattle.std.specs.Prelude.{reverse}
use Rattle.std.specs.List.{fold}
use Rattle.std.proofs.lemmas.List.Sums.{fold_push}
use Prim.Native.Nat.{ℕ}
use mathlib.Core.Path.{◌≡◌, refl, ap, ◌∙◌}
use mathlib.Core.Bool.{cond, ◌&&◌}
use mathlib.Core.List.{List, [], ◌∷◌, reverse-cons}
use lib.Bits.{bit_or}
use Rattle.masks.specs.Sets.{meets}
use Rattle.plans.specs.declared.Entry.{Entry}
use Rattle.plans.specs.Entries.{is_read}
use Rattle.conflicts.specs.Widening.{widen}

-- What an entry adds to the names.
abbrev pub brought_to : ℕ → Entry → ℕ
brought_to names e = cond (is_read e && meets e.set names) e.set 0

pub widened_by_fold : (names : ℕ) (es : List Entry)
    → fold (λ out e. bit_or out (brought_to names e)) names (reverse es) ≡ widen names es
unfolding widen
widened_by_fold names [] = refl
widened_by_fold names (e ∷ later) =
    rw (reverse-cons) (fold_push (λ out e. bit_or out (brought_to names e)) names (reverse later) e)
    ∙ ap (λ (w : ℕ). bit_or w (brought_to names e)) (widened_by_fold names later)
