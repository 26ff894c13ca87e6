use Rattle.std.proofs.Common.{rules}
use Prim.Native.Nat.{ℕ, ◌≤◌}
use mathlib.Core.Bool.{Bool, true, false}
use mathlib.Core.Path.{◌≡◌, ap, sym, ◌∙◌}
use mathlib.Core.List.{List}
use native.Mathlib.Omega.{arith}
use lib.ListN.{take}
use lib.Seq.{take-take}
use Rattle.std.specs.Fn.{FnReturnsAt}
use Rattle.log_input.proofs.reads.fill_while.Goals as goal

-- If two lists agree in their first bytes, they agree in any shorter front.
front_kept : (x y : List ℕ) (first have : ℕ) → first ≤ have → take have x ≡ take have y → take first x ≡ take first y
front_kept x y first have h e = sym (take-take first have x h) ∙ ap (take first) e ∙ take-take first have y h

-- Where the bytes ask for more, and those at hand do not, they are not those at hand.
not_at_hand : (P : List ℕ → Bool → Type 0) (l b : List ℕ) (first have : ℕ) → P (take have b) true
    → (((more : Bool) → P (take first l) more → more ≡ false) → (b ≡ l) × (have ≡ first))
    → ((more : Bool) → P (take first l) more → more ≡ false) → ⊥
not_at_hand P l b first have turn left none =
    let both = left none in
    let same : take have b ≡ take first l = rw (both.0, both.1) in
    let wrong : true ≡ false = none true (rw (← same) turn) in
    cc

pub returns-in-Ok-eq0-clause-kept : goal.returns-in-Ok-eq0-clause-kept
returns-in-Ok-eq0-clause-kept g c =
    front_kept _ _ _ c.loop-have.have (omega arith) c.read_behind.ensures.kept ∙ c.loop-have.invariant.1.1.1.0

pub returns-in-Ok-eq0-clause-enough : goal.returns-in-Ok-eq0-clause-enough
returns-in-Ok-eq0-clause-enough g c = λ none. absurd (not_at_hand (FnReturnsAt g.F.Fn c.args.waits) c.args.buffer.now c.loop-have.buffer c.args.first c.loop-have.have (search rules) c.loop-have.invariant.1.1.1.1 none)

pub returns-in-Err-clause-kept : goal.returns-in-Err-clause-kept
returns-in-Err-clause-kept g c =
    front_kept _ _ _ c.loop-have.have (omega arith) c.read_behind.ensures.kept ∙ c.loop-have.invariant.1.1.1.0

pub returns-in-Err-clause-enough : goal.returns-in-Err-clause-enough
returns-in-Err-clause-enough g c = λ none. absurd (not_at_hand (FnReturnsAt g.F.Fn c.args.waits) c.args.buffer.now c.loop-have.buffer c.args.first c.loop-have.have (search rules) c.loop-have.invariant.1.1.1.1 none)

pub loop-have-preserved : goal.loop-have-preserved
loop-have-preserved g c = (
  c.in-Ok.ensures.within,
  (
    omega arith,
    (
      c.read_behind.ensures.size ∙ c.loop-have.invariant.1.1.0,
      (
        front_kept _ _ _ c.loop-have.have (omega arith) c.read_behind.ensures.kept ∙ c.loop-have.invariant.1.1.1.0,
        λ none. absurd (not_at_hand (FnReturnsAt g.F.Fn c.args.waits) c.args.buffer.now c.loop-have.buffer c.args.first c.loop-have.have (search rules) c.loop-have.invariant.1.1.1.1 none),
      ),
    ),
  ),
)
