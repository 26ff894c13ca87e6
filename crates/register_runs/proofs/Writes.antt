-- The three kinds of writes: one that changes nothing, one that stores a byte, and a command that the arbiter answers.
-- Assumes nothing.
use Prim.Native.Nat.{ℕ, ◌+◌, ◌≤◌, ◌<◌}
use mathlib.Core.Path.{◌≡◌, refl, ap, ◌∙◌}
use mathlib.Core.Bool.{Bool, true, false, cond, ◌&&◌, ◌||◌}
use native.Mathlib.Omega.{arith}
use lib.Dec.{eqb, ltb, leb}
use borrow.Author.Tests.{eqb-true, eqb-false, ltb-true, ltb-false, lt-ltb, le-leb, lt-leb, ne_eqb}
use Rattle.rules.specs.declared.states.Board.{Board}
use Rattle.rules.specs.declared.states.State.{State}
use Rattle.rules.specs.Calls.{answered}
use Rattle.registers.specs.declared.Block.{Block}
use Rattle.registers.specs.declared.Register.{Register}
use Rattle.registers.specs.declared.Register.TheVariants.{Command, Argument, Answer, Pending, Enabled, Line, Unlisted}
use Rattle.registers.specs.Registers.{register_at}
use Rattle.registers.specs.Stores.{stored}
use Rattle.register_block.specs.Calls.{command_call}
use Rattle.register_block.specs.Commands.{unmoved, carried_out, commanded, written_to, register_write}
use Rattle.register_runs.specs.Steps.{carries}
use Rattle.register_runs.proofs.Blocks.{pending_place}

-- The offset is not one of the four pending ones.
abbrev pub Apart : ℕ → Type 0
Apart o = (k : ℕ) → k < 4 → eqb o (20 + k) ≡ false

pub data Wrote (b : Board) (s : State) (block : Block) (o v : ℕ) : Type 0 where
  unchanged : (n : ℕ) → carries o v ≡ false → Apart o → register_write b s block o v ≡ unmoved n block s
      → Wrote b s block o v
  kept : carries o v ≡ false → register_write b s block o v ≡ unmoved 0 (stored block o v) s → Wrote b s block o v
  carried : carries o v ≡ true → Apart o
      → register_write b s block o v ≡ carried_out block (answered b s (command_call block.bytes v))
      → Wrote b s block o v

-- ---- by register

at_zero : register_at 0 ≡ Command
unfolding register_at
at_zero = refl

not_command : (o v : ℕ) → (register_at o ≡ Command → ⊥) → carries o v ≡ false
not_command o v other = ap (λ t. t && (ltb 0 v && leb v 4)) (ne_eqb o 0 (λ z. other (ap register_at z ∙ at_zero)))

apart : (o : ℕ) → (register_at o ≡ Pending → ⊥) → Apart o
apart o other k l = ne_eqb o (20 + k) (λ e. other (ap register_at e ∙ pending_place k l))

-- Only offset 0 is the command.
none_is_command : (a b c d e : Bool) → cond a Argument
    (cond b Answer (cond c Pending (cond d Enabled (cond e Line Unlisted)))) ≡ Command → ⊥
none_is_command true b c d e p = let z : ◌≡◌ {A = ℕ} 0 1 = cc in omega arith
none_is_command false true c d e p = let z : ◌≡◌ {A = ℕ} 0 1 = cc in omega arith
none_is_command false false true d e p = let z : ◌≡◌ {A = ℕ} 0 1 = cc in omega arith
none_is_command false false false true e p = let z : ◌≡◌ {A = ℕ} 0 1 = cc in omega arith
none_is_command false false false false true p = let z : ◌≡◌ {A = ℕ} 0 1 = cc in omega arith
none_is_command false false false false false p = let z : ◌≡◌ {A = ℕ} 0 1 = cc in omega arith

command_at_zero : (o : ℕ) → register_at o ≡ Command → o ≡ 0
unfolding register_at
command_at_zero o e = go (eqb o 0) refl e
  where
    argument : Bool
    argument = (leb 1 o && leb o 2) || (leb 4 o && leb o 8)

    answer : Bool
    answer = eqb o 3 || (eqb o 9 || (leb 12 o && leb o 19))

    pending : Bool
    pending = leb 20 o && leb o 23

    enabled : Bool
    enabled = leb 24 o && leb o 27

    go : (t : Bool) → eqb o 0 ≡ t
        → cond t Command (cond argument Argument
        (cond answer Answer (cond pending Pending (cond enabled Enabled (cond (eqb o 28) Line Unlisted)))))
        ≡ Command
        → o ≡ 0
    go true z p = eqb-true o 0 z
    go false z p = absurd (none_is_command argument answer pending enabled (eqb o 28) p)

module _ (b : Board) (s : State) (block : Block) (v : ℕ) where
  command_wrote : (o : ℕ) → register_at o ≡ Command → Wrote b s block o v
  unfolding register_write commanded
  command_wrote o e = go (eqb v 0) refl (ltb 4 v) refl
    where
      here : o ≡ 0
      here = command_at_zero o e

      free : Apart o
      free = apart o (λ p. let z : ◌≡◌ {A = ℕ} 0 1 = cc in omega arith)

      says : register_write b s block o v ≡ commanded b s block v
      says = ap (λ r. written_to r b s block o v) e

      go : (t : Bool) → eqb v 0 ≡ t → (u : Bool) → ltb 4 v ≡ u → Wrote b s block o v
      go true z u l =
          let none : v ≡ 0 = eqb-true v 0 z in
          unchanged 0 (rw (none, here)) free
          (says ∙ ap (λ x. cond x (unmoved 0 block s)
          (cond (ltb 4 v) (unmoved 18 block s) (carried_out block (answered b s (command_call block.bytes v))))) z)
      go false z true l =
          let above : 4 < v = ltb-true 4 v l in
          unchanged 18 (rw (here, lt-leb v 4 above, lt-ltb 0 v (omega arith))) free
          (says
          ∙ ap (λ x. cond x (unmoved 0 block s)
          (cond (ltb 4 v) (unmoved 18 block s) (carried_out block (answered b s (command_call block.bytes v))))) z
          ∙ ap (λ x. cond x (unmoved 18 block s) (carried_out block (answered b s (command_call block.bytes v)))) l)
      go false z false l =
          let most : v ≤ 4 = ltb-false 4 v l in
          let some : 0 < v = omega (arith, eqb-false v 0 z) in
          carried (rw (here, le-leb v 4 most, lt-ltb 0 v some)) free
          (says
          ∙ ap (λ x. cond x (unmoved 0 block s)
          (cond (ltb 4 v) (unmoved 18 block s) (carried_out block (answered b s (command_call block.bytes v))))) z
          ∙ ap (λ x. cond x (unmoved 18 block s) (carried_out block (answered b s (command_call block.bytes v)))) l)

  pub wrote : (o : ℕ) → Wrote b s block o v
  unfolding register_write
  wrote o = go (register_at o) refl
    where
      go : (r : Register) → register_at o ≡ r → Wrote b s block o v
      go Command e = command_wrote o e
      go Argument e = kept (not_command o v (λ p. let z : ◌≡◌ {A = ℕ} 0 1 = cc in omega arith))
          (ap (λ r. written_to r b s block o v) e)
      go Answer e =
          unchanged 18 (not_command o v (λ p. let z : ◌≡◌ {A = ℕ} 0 1 = cc in omega arith))
          (apart o (λ p. let z : ◌≡◌ {A = ℕ} 0 1 = cc in omega arith)) (ap (λ r. written_to r b s block o v) e)
      go Pending e = kept (not_command o v (λ p. let z : ◌≡◌ {A = ℕ} 0 1 = cc in omega arith))
          (ap (λ r. written_to r b s block o v) e)
      go Enabled e = kept (not_command o v (λ p. let z : ◌≡◌ {A = ℕ} 0 1 = cc in omega arith))
          (ap (λ r. written_to r b s block o v) e)
      go Line e =
          unchanged 18 (not_command o v (λ p. let z : ◌≡◌ {A = ℕ} 0 1 = cc in omega arith))
          (apart o (λ p. let z : ◌≡◌ {A = ℕ} 0 1 = cc in omega arith)) (ap (λ r. written_to r b s block o v) e)
      go Unlisted e =
          unchanged 18 (not_command o v (λ p. let z : ◌≡◌ {A = ℕ} 0 1 = cc in omega arith))
          (apart o (λ p. let z : ◌≡◌ {A = ℕ} 0 1 = cc in omega arith)) (ap (λ r. written_to r b s block o v) e)
