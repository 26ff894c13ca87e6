-- The four steps with the masks that the code uses: only the known reads. Assumes nothing.
use mathlib.Core.Path.{◌≡◌, refl, ap, ◌∙◌}
use mathlib.Core.Bool.{false, ◌&&◌, and-false}
use mathlib.Core.List.{List}
use Prim.Native.Nat.{ℕ, ◌-◌, ◌^◌, ◌<◌}
use lib.Bits.{bit_and, bit_or}
use lib.Dec.{ltb}
use lib.ListN.{get_or}
use Rattle.masks.specs.Sets.{bit, without, mask_of}
use Rattle.masks.proofs.Tests.{and_is}
use Rattle.settling.proofs.known_requests.Below.{of_all}
use Rattle.plans.specs.Entries.{max_processors, max_entries}
use Rattle.rules.specs.Requests.{Facts, entry_of, is_writer, active}
use Rattle.rules.specs.Settling.{step1, step2, step3, step4}
use Rattle.rules.specs.inner.Moves.{Table, known_in, unopposed_in, first_in_line, Follows}
use Rattle.rules.specs.declared.states.Phases.{Phases}
use Rattle.rules.proofs.FourSteps.{active_write, At, at_first, after1, after2, after3, after4}
use Rattle.rules.proofs.Known.{unknown_read, known_writers, known1, known2, known3, known4}

-- The known processors, as the code finds them among all.
pub all_known : (requested : List ℕ) (count k : ℕ) → count ≡ max_entries
    → k ≡ mask_of max_processors (λ p. bit (2 ^ max_processors - 1) p && ltb (get_or requested p 0) count)
    → k ≡ known_in requested
all_known requested count k rows e =
    e ∙ of_all (λ p. ltb (get_or requested p 0) count)
    ∙ ap (λ (n : ℕ). mask_of max_processors (λ p. ltb (get_or requested p 0) n)) rows

module _ (f : Facts) (small : f.writes < 2 ^ max_entries) (table : Table f.rows) {k : ℕ}
    (all : k ≡ known_in f.requested) where
  pub at_known : {ph : Phases} {w x e h : ℕ} → Follows ph x e h
      → w ≡ mask_of max_processors (λ p. bit (bit_and (bit_or (bit_or x e) h) k) p && is_writer f p) → At f ph w x e h
  at_known {x = x} {e} {h} given are = at_first given (are ∙ known_writers f small (bit_or (bit_or x e) h) all)

  module _ {ph : Phases} {w x e h : ℕ} (at : At f ph w x e h) where
    none : (p : ℕ) → ltb (entry_of f p) max_entries ≡ false → active_write f ph p ≡ false
    none p n = ap (λ t. active ph p && t) (unknown_read f small p n) ∙ and-false (active ph p)

    pub known_after1 : {o g : ℕ} → o ≡ unopposed_in f (bit_and x (without 32 k w)) (bit_and e w)
        → g ≡ unopposed_in f (bit_or (bit_and e (without 32 k w)) o) (bit_and h w)
        → At f (step1 f ph) w (without 32 x (bit_or (without 32 (bit_or x e) k) g))
        (without 32 e (bit_or (without 32 (bit_or x e) k) g)) (bit_or h (bit_or (without 32 (bit_or x e) k) g))
    known_after1 ahead free = after1 at refl
        (known1 f table all at.writes none _ _ at.waits at.entitles ahead free)

    pub known_after2 : {o g : ℕ} → o ≡ unopposed_in f (bit_and x w) (bit_or (bit_and h w) (bit_and e (without 32 k w)))
        → g ≡ first_in_line f o (bit_and (bit_or x e) w) → At f (step2 f ph) w (without 32 x g) (bit_or e g) h
    known_after2 clear next =
        after2 at (clear ∙ known2 f table all at.writes none _ (and_is at.holds at.writes) at.entitles) next

    pub known_after3 : {g : ℕ} → g ≡ unopposed_in f (bit_and e w) (bit_and h (without 32 k w))
        → At f (step3 f ph) w (without 32 x g) (without 32 e g) (bit_or h g)
    known_after3 granted = after3 at (granted ∙ known3 f table all at.writes none _ at.holds)

    pub known_after4 : {o g : ℕ} → o ≡ unopposed_in f (bit_and x (without 32 k w)) (bit_and h w)
        → g ≡ unopposed_in f (without 32 (bit_and x (without 32 k w)) o) (bit_and e w)
        → At f (step4 f ph) w (without 32 x g) (bit_or e g) h
    known_after4 clear behind =
        after4 at refl
        (behind ∙ ap (λ (o : ℕ). unopposed_in f (without 32 (bit_and x (without 32 k w)) o) (bit_and e w)) clear
        ∙ known4 f table all at.writes none _ _ at.waits)
