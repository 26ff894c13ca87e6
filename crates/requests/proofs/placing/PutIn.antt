-- A request enters or leaves, in masks. Assumes nothing.
use mathlib.Core.Path.{◌≡◌, refl, sym, ap, subst, ◌∙◌}
use mathlib.Core.Bool.{Bool, true, false, cond, ◌&&◌, ◌||◌, or-false}
use Prim.Native.Nat.{ℕ, ◌^◌, ◌<◌}
use native.Mathlib.Omega.{arith}
use lib.Bits.{bit_and, bit_or}
use lib.Dec.{eqb, ltb}
use lib.ListN.{get_or}
use borrow.Author.Tests.{ne_eqb, ltb-true, ltb-false}
use Rattle.masks.specs.Sets.{bit, added, mask_of}
use Rattle.masks.proofs.Tests.{Mask, agree_is, same_is, own_is, none_is, one_is, any_and, or_is, in_is}
use Rattle.masks.proofs.Tests.{neither}
use Rattle.masks.proofs.Walks.{bit_none}
use Rattle.plans.specs.Entries.{max_processors}
use Rattle.rules.specs.declared.states.Phases.{Phases}
use Rattle.rules.specs.Requests.{Facts}
use Rattle.rules.specs.Settling.{settled}
use Rattle.rules.proofs.Idle.{alone_holds}
use Rattle.rules.proofs.Quiet.{quiet}
use Rattle.rules.specs.Acts.{put_in, taken_out}
use Rattle.requests.proofs.ages.Ages.{others}

pub taken_out_law : (ph : Phases) (p keep : ℕ) → keep ≡ mask_of max_processors (others p)
    → ◌≡◌ {A = Phases} (record {
      waiting = bit_and ph.waiting keep;
      entitled = bit_and
          ph.entitled keep;
      holding = bit_and ph.holding keep;
    })
    (taken_out ph p)
unfolding taken_out
taken_out_law ph p keep e = λ i. record {
  waiting = out ph.waiting i;
  entitled = out ph.entitled i;
  holding = out
      ph.holding i;
}
  where
    out : (n : ℕ) → bit_and n keep ≡ mask_of max_processors (λ q. bit n q && others p q)
    out n = (any_and n (record { is = e })).is

module _ (ph : Phases) (p : ℕ) where
  with_own : (w : ℕ) → w < 2 ^ 32 → (t : Bool) → ltb p 32 ≡ t
      → Mask max_processors (λ q. bit w q || eqb q p) (cond t (added w p) w)
  with_own w small true e =
      subst (λ t. Mask 32 (λ q. bit w q || eqb q p) (cond t (added w p) w)) e
      (in_is 32 p (omega arith) (ltb-true p 32 e) (own_is 32 w small))
  with_own w small false e =
      agree_is (λ k l. sym (ap (λ t. bit w k || t) (ne_eqb k p (λ s. omega (arith, s, ltb-false p 32 e)))
      ∙ or-false (bit w k))) (own_is max_processors w small)

  pub new_waits : ph.waiting < 2 ^ 32 → (waiting : ℕ) → waiting ≡ cond (ltb p 32) (added ph.waiting p) ph.waiting
      → ◌≡◌ {A = Phases} (record { waiting = waiting; entitled = ph.entitled; holding = ph.holding }) (put_in ph p)
  unfolding put_in
  new_waits small waiting e =
      let w = e ∙ (with_own ph.waiting small (ltb p 32) refl).is in
      λ i. record { waiting = w i; entitled = ph.entitled; holding = ph.holding }

  -- If nobody else is active it holds.
  pub idle_holds : p < max_processors → ph.waiting < 2 ^ 32 → ph.entitled < 2 ^ 32 → ph.holding < 2 ^ 32
      → (f : Facts) (alone : ℕ)
      → bit_or (bit_or ph.waiting ph.entitled) ph.holding ≡ 0 → get_or f.earlier p 0 ≡ 0
      → alone ≡ cond (ltb p 32) (added 0 p) 0
      → ◌≡◌ {A = Phases} (record { waiting = 0; entitled = 0; holding = alone }) (settled f (put_in ph p))
  unfolding put_in
  idle_holds l hw he hh f alone idle first e =
      let any = neither (or_is (own_is 32 ph.waiting hw) (own_is 32 ph.entitled he))
      (own_is 32 ph.holding hh) idle in
      let unsatisfied = neither (own_is 32 ph.waiting hw) (own_is 32 ph.entitled he) any.0 in
      (λ i. record {
        waiting = 0;
        entitled = 0;
        holding =
            (e ∙ same_is (in_is 32 p (omega arith) l (none_is max_processors)) (one_is max_processors p l)) i;
      })
      ∙ alone_holds f p l (put_in ph p)
      (sym (agree_is (λ q m. ap (λ t. t || eqb q p) (sym (bit_none ph.waiting q unsatisfied.0)))
      (one_is max_processors p l)).is)
      unsatisfied.1 any.1 first

-- If nobody waits or is entitled, settling changes nothing.
pub quiet_same : (f : Facts) (ph : Phases) → ph.waiting < 2 ^ 32 → ph.entitled < 2 ^ 32 → ph.holding < 2 ^ 32
    → bit_or ph.waiting ph.entitled ≡ 0 → ph ≡ settled f ph
quiet_same f ph hw he hh e =
    let waits = own_is max_processors ph.waiting hw in
    let entitles = own_is max_processors ph.entitled he in
    let none = neither waits entitles e in
    (λ i. record { waiting = none.0 i; entitled = none.1 i; holding = ph.holding })
    ∙ quiet f ph ph.holding
    (record {
      waits = sym none.0 ∙ waits.is;
      entitles = sym none.1 ∙ entitles.is;
      holds = (own_is max_processors ph.holding hh).is;
    })
