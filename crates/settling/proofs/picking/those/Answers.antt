use mathlib.Core.Path.{sym, ap, ◌∙◌}
use mathlib.Core.Bool.{cond, not}
use lib.Count.{count_trailing_zeros}
use lib.Dec.{eqb}
use Rattle.masks.specs.Sets.{bit, added}
use Rattle.masks.proofs.Truth.{and_left}
use Rattle.masks.proofs.Walks.{kept_first, kept_more, kept_last, left_more, bit_left, lowest_bit, lowest_place}
use Rattle.settling.proofs.Processors.{walk_of}
use Rattle.settling.proofs.picking.those.Goals as goal

pub loop-p-init : goal.loop-p-init
loop-p-init g c =
    let walk = walk_of c.ranges.among.fits in
    rw c.into_iter-p-iterator.ensures.into_iter_gives
    (record { next = tt; ends = tt; walk = walk; within = λ p h. h; kept = λ P says. kept_first P walk })

pub passes-requires : goal.passes-requires
passes-requires g c =
    let step = c.in-Some.ensures.steps in
    let inv = c.loop-p.invariant in
    rw step.1 (c.requires _ (lowest_place inv.walk step.0) (inv.within _ (lowest_bit inv.walk step.0)))

pub loop-p-preserved : goal.loop-p-preserved
loop-p-preserved g c =
    let step = c.in-Some.ensures.steps in
    let inv = c.loop-p.invariant in
    let left = c.loop-p.p-iterator.0 in
    rw step.2
    (record {
      next = tt;
      ends = tt;
      walk = left_more inv.walk;
      within = λ p h. inv.within p (and_left (bit left p) (not (eqb p (count_trailing_zeros 32 left)))
          (sym (bit_left inv.walk step.0 p) ∙ h));
      kept = λ P says. kept_more _ step.0 (inv.kept P says)
          (rw (← step.1) (c.add_if-out.ensures ∙ ap (λ t. cond t (added c.loop-p.out c.in-Some.p) c.loop-p.out)
          (says c.in-Some.p _ (rw step.1 (lowest_place inv.walk step.0))
          (rw step.1 (inv.within _ (lowest_bit inv.walk step.0))) c.passes.ensures)));
    })

pub returns : goal.returns
returns g c P says = kept_last c.in-None.ensures.steps (c.loop-p.invariant.kept P says)
