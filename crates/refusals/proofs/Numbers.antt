-- Numbers that are due: what follows for the parts if the number is 0, the number for a known test or verdict, and the
-- order of several numbers. Assumes nothing.
use Rattle.std.specs.Prelude.{Result, Ok, Err}
use Prim.Native.Nat.{ℕ, zero, suc, ◌<◌}
use mathlib.Core.Path.{◌≡◌, refl, sym, ap, ◌∙◌}
use mathlib.Core.Bool.{Bool, true, false}
use native.Mathlib.Omega.{arith}
use lib.Dec.{eqb, lit<, eqb-suc-zero}
use borrow.Author.Tests.{ne_eqb}
use Rattle.refusals.specs.declared.Refusal.{Refusal}
use Rattle.refusals.specs.declared.Refusal.TheVariants.{Short, Tail, Processors, Resources, Entries, Kind, Set}
use Rattle.refusals.specs.declared.Refusal.TheVariants.{Length, Verb, Tick, Processor, Entry, Busy, Idle, Unheld}
use Rattle.refusals.specs.declared.Refusal.TheVariants.{Room, Held, Register}
use Rattle.refusals.specs.Number.{number_of, verdict_number}
use Rattle.refusals.specs.Due.{due, first_of, as_numbers}

-- ---- the numbers of the table

pub number_positive : (r : Refusal) → 0 < number_of r
number_positive Short = lit< tt
number_positive Tail = lit< tt
number_positive Processors = lit< tt
number_positive Resources = lit< tt
number_positive Entries = lit< tt
number_positive Kind = lit< tt
number_positive Set = lit< tt
number_positive Length = lit< tt
number_positive Verb = lit< tt
number_positive Tick = lit< tt
number_positive Processor = lit< tt
number_positive Entry = lit< tt
number_positive Busy = lit< tt
number_positive Idle = lit< tt
number_positive Unheld = lit< tt
number_positive Room = lit< tt
number_positive Held = lit< tt
number_positive Register = lit< tt

pub positive_not_zero : (n : ℕ) → 0 < n → eqb n 0 ≡ false
positive_not_zero n h = ne_eqb n 0 (λ e. omega arith)

pub number_not_zero : (r : Refusal) → eqb (number_of r) 0 ≡ false
number_not_zero r = positive_not_zero (number_of r) (number_positive r)

-- A refusal's number is never 0.
pub refused_not_zero : (r : Refusal) → number_of r ≡ 0 → ⊥
refused_not_zero r e = omega (arith, number_positive r)

pub verdict_accepted : (v : Result Unit Refusal) → verdict_number v ≡ 0 → v ≡ Ok tt
verdict_accepted (Ok tt) e = refl
verdict_accepted (Err r) e = absurd (refused_not_zero r e)

-- ---- the earlier of two

pub record Both_accepted (v w : ℕ) : Type 0 where
  pub first : v ≡ 0
  pub later : w ≡ 0

pub first_accepted : (v w : ℕ) → first_of v w ≡ 0 → Both_accepted v w
first_accepted zero w e = record { first = refl; later = e }
first_accepted (suc n) w e = absurd (omega (arith, rw (eqb-suc-zero n) at e))

pub first_refuses : (v w : ℕ) → 0 < v → first_of v w ≡ v
first_refuses v w h = rw (positive_not_zero v h)

pub first_passes : (v w : ℕ) → v ≡ 0 → first_of v w ≡ w
first_passes v w e = rw e

-- The same for a known verdict.
pub first_accepts_verdict : (v : Result Unit Refusal) (w : ℕ) → v ≡ Ok tt → first_of (verdict_number v) w ≡ w
first_accepts_verdict v w e = rw e

pub first_refuses_verdict : (v : Result Unit Refusal) (w : ℕ) (r : Refusal) → v ≡ Err r → first_of (verdict_number v) w
    ≡ number_of r
first_refuses_verdict v w r e = rw e (first_refuses (number_of r) w (number_positive r))

pub first_assoc : (a b c : ℕ) → first_of (first_of a b) c ≡ first_of a (first_of b c)
first_assoc zero b c = refl
first_assoc (suc n) b c = rw (eqb-suc-zero n, eqb-suc-zero n)

pub first_of_four : (a b c d : ℕ) → first_of a (first_of b (first_of c d)) ≡ first_of (first_of a (first_of b c)) d
first_of_four a b c d = sym (first_assoc a (first_of b c) d ∙ ap (λ v. first_of a v) (first_assoc b c d))

-- The checks after a fault do not matter.
pub first_same : (a b c : ℕ) → (a ≡ 0 → b ≡ c) → first_of a b ≡ first_of a c
first_same zero b c h = h refl
first_same (suc n) b c h = rw (eqb-suc-zero n)

-- ---- a test

pub due_accepted : (t : Bool) (n : ℕ) → 0 < n → due t n ≡ 0 → t ≡ true
due_accepted true n h e = refl
due_accepted false n h e = absurd (omega arith)

pub due_passed : (t : Bool) (n : ℕ) → t ≡ true → due t n ≡ 0
due_passed t n e = rw e

pub due_failed : (t : Bool) (n : ℕ) → t ≡ false → due t n ≡ n
due_failed t n e = rw e

-- ---- an answer of one value

pub said_value : (n x : ℕ) → n ≡ 0 → as_numbers n x ≡ record { number = 0; value = x }
said_value n x e = rw e

pub said_refusal : (n x : ℕ) → 0 < n → as_numbers n x ≡ record { number = n; value = 0 }
said_refusal n x h = rw (positive_not_zero n h)

pub said_accepted : (n x y : ℕ) → as_numbers n x ≡ as_numbers 0 y → (n ≡ 0) × (x ≡ y)
said_accepted n x y e =
    let none : n ≡ 0 = ap (λ a. a.number) e in
    (none, ap (λ a. a.value) (sym (said_value n x none) ∙ e))
