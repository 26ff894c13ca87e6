use native.Mathlib.Omega.{arith}
use borrow.Author.Rules.{rules}
use Rattle.std.specs.Prelude.{Ok, Err}
use mathlib.Core.Path.{◌≡◌, refl}
use Rattle.refusals.specs.Number.{number_of}
use Rattle.plans.proofs.Sizes.{sized_due}
use Rattle.plan_bytes.proofs.plan_reader.Answers.{refused_only}
use Rattle.plan_bytes.proofs.plan_reader.Section.{nothing_read, entry_passes, read_whole}
use Rattle.plan_bytes.proofs.plan_reader.Section.{not_both, left_with, entry_missing, kind_refused}
use Rattle.plan_bytes.proofs.plan_reader.Section.{names_refused, ticks_refused}
use Rattle.plan_bytes.specs.inner.Body.{body_fault}
use Rattle.plan_bytes.proofs.plan_reader.read_entries.Goals as goal
use Rattle.plan_bytes.proofs.plan_reader.read_entries.Goals.{then-count-i, else-count-i+then-bytes-at-lt-ENTRY_BYTES}
use Rattle.plan_bytes.proofs.plan_reader.read_entries.Goals.{else-count-i+else-bytes-at-lt-ENTRY_BYTES+in-Err}
use Rattle.plan_bytes.proofs.plan_reader.read_entries.Goals.{else-count-i+else-bytes-at-lt-ENTRY_BYTES+in_default+in-Err-set}
use Rattle.plan_bytes.proofs.plan_reader.read_entries.Goals.{else-count-i+else-bytes-at-lt-ENTRY_BYTES+in_default+in_default-set+in-Err-length}

pub loop-i-init : goal.loop-i-init
loop-i-init c = nothing_read _ _ _ (omega arith)

pub overflow_add-at : goal.overflow_add-at
overflow_add-at c = omega (arith, sized_due _ _ c.entry_size-at.ensures)

pub loop-i-preserved : goal.loop-i-preserved
loop-i-preserved c =
    entry_passes _ _ _ _ _ _ c.loop-i.invariant c.if-count-i.false c.if-bytes-at-lt-ENTRY_BYTES.false
    _ c.entry_of-entry.ensures _ c.check_kind-kind.ensures c.in_default.is
    _ c.check_set-set.ensures c.in_default-set.is
    _ c.check_length-length.ensures c.in_default-length.is (omega arith)
    _ c.entry_size-at.ensures

-- The loop ends after the last entry. The other exits return a refusal.
pub returns : goal.returns
returns c =
    let accepted : c.if-count-i.verdict ≡ Ok tt = search rules in
    let both =
    read_whole _ _ _ _ c.loop-i.invariant
    (elim c.if-count-i.branch [
      | then-count-i w ↦ w.if-count-i.true
      | else-count-i+then-bytes-at-lt-ENTRY_BYTES w ↦
          absurd (not_both _ _ w.verdict-is accepted)
      | else-count-i+else-bytes-at-lt-ENTRY_BYTES+in-Err w ↦
          absurd (not_both _ _ w.verdict-is accepted)
      | else-count-i+else-bytes-at-lt-ENTRY_BYTES+in_default+in-Err-set w ↦
          absurd (not_both _ _ w.verdict-is accepted)
      | else-count-i+else-bytes-at-lt-ENTRY_BYTES+in_default+in_default-set+in-Err-length w ↦
          absurd (not_both _ _ w.verdict-is accepted)
    ])
    _ refl
    in
    record { outcome = both.0; plan = both.1 }

-- The loop ends with a refusal: of the bytes, of a kind, of names or of a length.
pub returns-in_err-verdict : goal.returns-in_err-verdict
returns-in_err-verdict c =
    let refused : c.if-count-i.verdict ≡ Err c.in_err-verdict.field-0.0 = search rules in
    let inv = c.loop-i.invariant in
    let fault : body_fault c.args.bytes.now ≡ number_of c.in_err-verdict.field-0.0 =
    elim c.if-count-i.branch [
      | then-count-i w ↦ absurd (not_both _ _ refused w.verdict-is)
      | else-count-i+then-bytes-at-lt-ENTRY_BYTES w ↦
          left_with _ _ _ refused _
          (entry_missing _ _ _ _ _ _ inv w.if-count-i.false w.if-bytes-at-lt-ENTRY_BYTES.true)
          w.verdict-is
      | else-count-i+else-bytes-at-lt-ENTRY_BYTES+in-Err w ↦
          left_with _ _ _ refused _
          (kind_refused _ _ _ _ _ _ inv w.if-count-i.false w.if-bytes-at-lt-ENTRY_BYTES.false
          _ w.entry_of-entry.ensures _ w.check_kind-kind.ensures _ w.in-Err.is)
          w.verdict-is
      | else-count-i+else-bytes-at-lt-ENTRY_BYTES+in_default+in-Err-set w ↦
          left_with _ _ _ refused _
          (names_refused _ _ _ _ _ _ inv w.if-count-i.false w.if-bytes-at-lt-ENTRY_BYTES.false
          _ w.entry_of-entry.ensures _ w.check_kind-kind.ensures w.in_default.is
          _ w.check_set-set.ensures _ w.in-Err-set.is)
          w.verdict-is
      | else-count-i+else-bytes-at-lt-ENTRY_BYTES+in_default+in_default-set+in-Err-length w ↦
          left_with _ _ _ refused _
          (ticks_refused _ _ _ _ _ _ inv w.if-count-i.false w.if-bytes-at-lt-ENTRY_BYTES.false
          _ w.entry_of-entry.ensures _ w.check_kind-kind.ensures w.in_default.is
          _ w.check_set-set.ensures w.in_default-set.is
          _ w.check_length-length.ensures _ w.in-Err-length.is)
          w.verdict-is
    ]
    in
    let both = refused_only c.from_residual.result c.in_err-verdict.field-0.0 (search rules) _ fault _ _ in
    record { outcome = both.0; plan = both.1 }
