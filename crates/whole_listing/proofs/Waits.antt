-- Reading in pieces: nothing is lost, what is read fits into the buffer, and too few bytes mean the end of the input.
-- Assumes nothing.
use Prim.Native.Nat.{ℕ, zero, suc, ◌+◌, ◌-◌, ◌≤◌, ◌<◌}
use mathlib.Core.Path.{◌≡◌, refl, ap, sym, ◌∙◌}
use mathlib.Core.Bool.{Bool, true, false, cond, ◌||◌}
use mathlib.Core.List.{List, [], ◌∷◌, ◌++◌, append_assoc, append-nil}
use mathlib.Core.Logic.{◌⊎◌, inl, inr}
use native.Mathlib.Omega.{arith}
use borrow.Author.Tests.{leb-true, leb-false}
use lib.Dec.{leb}
use lib.ListN.{length, take, drop, length-append, length-take, take-append-drop}
use Rattle.whole_listing.specs.Arrivals.{together, got, to_come, Arrived, reads, fed, waited}

-- A read takes bytes from the pieces and loses none.
pub read_loses_nothing : (n : ℕ) (t : List (List ℕ)) → got n t ++ together (to_come n t) ≡ together t
unfolding got to_come together
read_loses_nothing n [] = refl
read_loses_nothing n ([] ∷ later) = read_loses_nothing n later
read_loses_nothing n ((x ∷ piece) ∷ later) =
    sym (append_assoc (take n (x ∷ piece)) (drop n (x ∷ piece)) (together later))
    ∙ ap (λ l. l ++ together later) (take-append-drop n (x ∷ piece))

pub read_within : (n : ℕ) (t : List (List ℕ)) → length (got n t) ≤ n
unfolding got
read_within n [] = omega arith
read_within n ([] ∷ later) = read_within n later
read_within n ((x ∷ piece) ∷ later) = omega (arith, length-take n (x ∷ piece))

-- A read with room gets a byte, or the input has ended.
pub read_brings : (n : ℕ) (t : List (List ℕ)) → 0 < n → (0 < length (got n t)) ⊎ (together t ≡ [])
unfolding got together
read_brings n [] some = inr refl
read_brings n ([] ∷ later) some = read_brings n later some
read_brings n ((x ∷ piece) ∷ later) some = inl (omega (arith, length-take n (x ∷ piece)))

-- After the end of the input nothing comes.
pub second_empty : (x y : List ℕ) → x ++ y ≡ [] → y ≡ []
second_empty [] y e = e
second_empty (a ∷ x) y e = absurd (omega (arith, ap length e))

no_clash : {A : Type 0} → (t : Bool) → t ≡ true → t ≡ false → A
no_clash true e f = absurd (let z : ◌≡◌ {A = ℕ} 0 1 = cc in omega arith)
no_clash false e f = absurd (let z : ◌≡◌ {A = ℕ} 0 1 = cc in omega arith)

-- What some reads leave: the bytes at hand and those to come are the same as before, the bytes fit into the buffer, and
-- if they are not enough the input has ended.
pub record Fed (room : ℕ) (enough : List ℕ → Bool) (s : List ℕ) (t : List (List ℕ)) (a : Arrived) : Type 0 where
  pub whole : a.bytes ++ together a.later ≡ s ++ together t
  pub holds : length a.bytes ≤ room
  pub ended : enough a.bytes ≡ false → together a.later ≡ []

module _ (room : ℕ) (enough : List ℕ → Bool) (full : (s : List ℕ) → room ≤ length s → enough s ≡ true) where
  turns_enough : (turns : ℕ) (s : List ℕ) (t : List (List ℕ)) → length s ≤ room → (room - length s ≤ turns)
      ⊎ (together t ≡ [])
      → Fed room enough s t (reads turns room enough s t)
  unfolding reads
  turns_enough zero s t fits (inl h) =
      record { whole = refl; holds = fits; ended = λ few. no_clash (enough s) (full s (omega arith)) few }
  turns_enough zero s t fits (inr none) = record { whole = refl; holds = fits; ended = λ few. none }
  turns_enough (suc turns) s t fits h =
      go (enough s) refl (λ s' t' fits' h'. turns_enough turns s' t' fits' h')
    where
      n : ℕ
      n = room - length s

      more : List ℕ
      more = s ++ got n t

      size : length more ≡ length s + length (got n t)
      size = length-append s (got n t)

      lost : more ++ together (to_come n t) ≡ s ++ together t
      lost = append_assoc s (got n t) (together (to_come n t)) ∙ ap (λ l. s ++ l) (read_loses_nothing n t)

      next : (room - length s ≤ suc turns) ⊎ (together t ≡ []) → (0 < length (got n t)) ⊎ (together t ≡ [])
          → (room - length more ≤ turns) ⊎ (together (to_come n t) ≡ [])
      next (inr none) brought = inr (second_empty (got n t) (together (to_come n t)) (read_loses_nothing n t ∙ none))
      next (inl few) (inr none) = inr (second_empty (got n t) (together (to_come n t)) (read_loses_nothing n t ∙ none))
      next (inl few) (inl some) = inl (omega (arith, size))

      below : (large : Bool) → leb room (length s) ≡ large → enough s ≡ false → length s < room
      below true large e = no_clash (enough s) (full s (leb-true room (length s) large)) e
      below false large e = leb-false room (length s) large

      carry : {a : Arrived} → Fed room enough more (to_come n t) a → Fed room enough s t a
      carry f = record { whole = f.whole ∙ lost; holds = f.holds; ended = f.ended }

      go : (e : Bool) → enough s ≡ e
          → ((s' : List ℕ) (t' : List (List ℕ)) → length s' ≤ room → (room - length s' ≤ turns) ⊎ (together t' ≡ [])
          → Fed room enough s' t' (reads turns room enough s' t'))
          → Fed room enough s t (cond e (record { bytes = s; later = t }) (reads turns room enough more (to_come n t)))
      go true e later = record { whole = refl; holds = fits; ended = λ few. no_clash (enough s) e few }
      go false e later =
          let small : length s < room = below (leb room (length s)) refl e in
          carry (later more (to_come n t) (omega (arith, size, read_within n t))
          (next h (read_brings n t (omega arith))))

  -- As many turns as there are bytes of room are enough.
  pub fed_until_enough : (s : List ℕ) (t : List (List ℕ)) → length s ≤ room → Fed room enough s t (fed room enough s t)
  fed_until_enough s t fits = turns_enough room s t fits (inl (omega arith))

-- What is written after a wait is what the bytes at hand and to come give if they are enough or if the input ended, and
-- nothing while the wait goes on.
pub after_wait : (closed : Bool) (enough : List ℕ → Bool) (a : Arrived) (next : List ℕ → List (List ℕ) → List ℕ)
    (gives : List ℕ)
    → (enough a.bytes ≡ true → next a.bytes a.later ≡ gives)
    → (closed ≡ true → enough a.bytes ≡ false → next a.bytes a.later ≡ gives)
    → (closed ≡ false → enough a.bytes ≡ false → [] ≡ gives)
    → waited closed enough a next ≡ gives
after_wait closed enough a next gives there ended waits = go closed (enough a.bytes) refl refl
  where
    go : (c e : Bool) → closed ≡ c → enough a.bytes ≡ e → cond (c || e) (next a.bytes a.later) [] ≡ gives
    go true true ec ee = there ee
    go true false ec ee = ended ec ee
    go false true ec ee = there ee
    go false false ec ee = waits ec ee

-- If nothing comes after the bytes at hand, they are all there is.
pub all_at_hand : (s u whole : List ℕ) → s ++ u ≡ whole → u ≡ [] → whole ≡ s
all_at_hand s u whole e none = sym e ∙ ap (λ l. s ++ l) none ∙ append-nil s
