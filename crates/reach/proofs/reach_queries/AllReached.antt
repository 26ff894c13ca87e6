-- The rows through all processors are the reach of each, and as words they are the bytes of the scratch.
-- Assumes nothing.
use Prim.Native.Nat.{ℕ, ◌+◌, ◌≤◌, ◌<◌}
use mathlib.Core.Path.{◌≡◌, refl, sym, ap, ◌∙◌}
use mathlib.Core.Bool.{Bool, true, false}
use mathlib.Core.List.{List}
use native.Mathlib.Omega.{arith}
use lib.Dec.{ltb}
use lib.ListN.{length, get_or}
use borrow.Author.Tests.{ltb-true}
use Rattle.masks.specs.Sets.{mask_of}
use Rattle.masks.proofs.Masks.{mask_agree}
use Rattle.masks.proofs.Truth.{and_left, and_right}
use Rattle.encoding.specs.Buffers.{overwritten}
use Rattle.encoding.proofs.Room.{fits_room}
use Rattle.plans.specs.Entries.{max_processors}
use Rattle.masks.specs.Tabulation.{tabulate}
use Rattle.masks.proofs.Tabulate.{get_d_tabulate, tabulate_agree}
use Rattle.rules.specs.declared.states.Board.{Board}
use Rattle.rules.specs.declared.states.State.{State}
use Rattle.board_list.specs.Sizes.{listed_of}
use Rattle.board_list.proofs.Sizes.{mask_size_small}
use Rattle.reach.specs.Rows.{rows_through}
use Rattle.queries.specs.Words.{word_count, words_scratch}
use Rattle.reach.proofs.Words.{words_agree}
use Rattle.reach.proofs.reaching.Through.{via, Path, step, over, rows_via, path_via, via_gives}
use Rattle.queries.specs.Queries.{waits_for, Chain, direct, through, reaches, scratch_size, mask_size_of, reach_bytes}
use Rattle.queries.specs.inner.Rows.{direct_rows}
use Rattle.queries.proofs.Waits.{Counted, waits_counted}
use Rattle.queries.proofs.Chains.{chain_reaches, reaches_chain}

-- All that each processor reaches.
abbrev pub reached_rows : Board → State → List ℕ
reached_rows b s = tabulate max_processors (λ p. mask_of max_processors (reaches b s p))

same_truth : (a b : Bool) → (a ≡ true → b ≡ true) → (b ≡ true → a ≡ true) → a ≡ b
same_truth true b f g = sym (f refl)
same_truth false true f g = g refl
same_truth false false f g = refl

module _ (b : Board) (s : State) where
  chain_join : (p r q : ℕ) → Chain b s p r → Chain b s r q → Chain b s p q
  chain_join p r q (direct e) d = through e d
  chain_join p r q (through {r = x} e c) d = through e (chain_join x r q c d)

  -- The processors of the plan that a state has a place for.
  abbrev m : ℕ
  m = listed_of b.terms.processors

  counted_listed : (p : ℕ) → Counted b s p → p < m
  counted_listed p e =
      let slot : p < max_processors = ltb-true p max_processors
      (and_left (ltb p max_processors) (ltb p b.terms.processors) e) in
      let plans : p < b.terms.processors =
      ltb-true p b.terms.processors (and_right (ltb p max_processors) (ltb p b.terms.processors) e) in
      omega arith

  -- A chain leads only through these.
  chain_path : (p q : ℕ) → Chain b s p q → Path (waits_for b s) m p q
  chain_path p q (direct e) = step e
  chain_path p q (through {r = r} e c) = over e (counted_listed r (waits_counted b s p r e).1) (chain_path r q c)

  via_reaches : (p q : ℕ) → via (waits_for b s) m p q ≡ reaches b s p q
  via_reaches p q =
      same_truth _ _
      (λ e. chain_reaches b s p q (via_gives (waits_for b s) (Chain b s) (λ x y. direct) chain_join m p q e))
      (λ e. path_via (waits_for b s) m p q (chain_path p q (reaches_chain b s p q e)))

  pub rows_reached : (given rows : List ℕ) → given ≡ direct_rows b s → rows ≡ rows_through m given
      → rows ≡ reached_rows b s
  rows_reached given rows are e =
      let places : m ≤ max_processors = omega arith in
      e
      ∙ ap (rows_through m) are
      ∙ rows_via (waits_for b s) m places
      ∙ tabulate_agree max_processors (λ p. mask_of max_processors (via (waits_for b s) m p))
      (λ p. mask_of max_processors (reaches b s p))
      (λ p l. mask_agree max_processors (via (waits_for b s) m p) (reaches b s p) (λ q k. via_reaches p q))

  module _ (rows : List ℕ) (are : rows ≡ reached_rows b s) where
    pub row_asked : (p : ℕ) → p < max_processors → get_or rows p 0 ≡ mask_of max_processors (reaches b s p)
    row_asked p l =
        ap (λ (xs : List ℕ). get_or xs p 0) are ∙ get_d_tabulate max_processors
        (λ q. mask_of max_processors (reaches b s q)) p 0 l

    -- The scratch after `write_rows`, if there is room. There are no more words than rows.
    pub words_stored : (scratch after : List ℕ) → scratch_size b.terms.processors ≤ length scratch
        → after ≡ words_scratch (mask_size_of b) rows scratch
        → after ≡ overwritten scratch 0 (reach_bytes b s)
    unfolding reach_bytes
    words_stored scratch after room stored =
        let n : ℕ = b.terms.processors in
        let k : ℕ = mask_size_of b in
        let fits : 0 + scratch_size n ≤ length scratch = omega (arith, room) in
        let inside : (p : ℕ) → p < word_count k → p < max_processors = λ p l. omega (arith, mask_size_small n) in
        let words = words_agree k (word_count k) (λ p. get_or rows p 0) (λ p. mask_of max_processors (reaches b s p))
        (λ p l. row_asked p (inside p l)) in
        rw (fits_room (scratch_size n) (length scratch) 0 fits) at stored
        ∙ ap (λ (bytes : List ℕ). overwritten scratch 0 bytes) words
