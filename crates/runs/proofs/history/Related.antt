-- The history counted from calls and answers, and the arbiter's state: how they agree, that they do so at the start,
-- and that every act and its grants keep it so, with the waits and holds of the old requests. Assumes nothing.
use Prim.Native.Nat.{ℕ, suc, ◌≤◌, ◌<◌}
use mathlib.Core.Path.{◌≡◌, refl, sym, ap, subst, ◌∙◌}
use mathlib.Core.List.{[], ◌∷◌, ◌++◌, map}
use mathlib.Core.Logic.{⊎_elim}
use native.Mathlib.Nat.{le_trans, le_of_suc-le-suc, not-suc-le-zero, eq-or-lt_of_le}
use native.Mathlib.Omega.{arith}
use lib.ListN.{length, length-map, get_or-append}
use lib.Seq.{get_or-append_seam}
use Rattle.plans.specs.Entries.{max_processors}
use Rattle.rules.specs.declared.states.Board.{Board}
use Rattle.rules.specs.declared.states.State.{State}
use Rattle.boards.specs.Fresh.{fresh_state}
use Rattle.runs.specs.History.{never, Request, History, Act, puts, takes, arrival, acting, granting, ending}
use Rattle.runs.specs.History.{nothing, wait_of}
use Rattle.runs.specs.Claim.{request}
use Rattle.runs.proofs.history.Cases.{by_processor, below_or_past, length_more, get_d_map}
use Rattle.runs.proofs.history.Tied.{Tied, open_active, ending_other, tied_put, tied_arrival, tied_taken}
use Rattle.runs.proofs.history.Tied.{tied_granted}
use Rattle.runs.proofs.history.Spans.{Alike, alike_same, alike_through, granting_alike, granting_end}
use Rattle.runs.proofs.history.Spans.{ending_alike, arrival_waits}
use Rattle.runs.proofs.columns.Columns.{idle}
use Rattle.runs.proofs.columns.Phases.{idle_stays}
use Rattle.runs.proofs.refinement.Clean.{phase_in, fresh_idle}
use Rattle.runs.proofs.refinement.Acts.{Begun, Settles, ActDone}

-- A request of processor q that has no end.
pub record OpenOf (h : History) (q i : ℕ) : Type 0 where
  pub listed : i < length h.requests
  pub no_end : (request h i).end ≡ never
  pub processor : (request h i).processor ≡ q

pub record Related (s : State) (h : History) : Type 0 where
  pub last : h.last ≡ s.last
  pub each : (i : ℕ) → i < length h.requests → Tied s (request h i)
  pub apart : (q i j : ℕ) → OpenOf h q i → OpenOf h q j → i ≡ j
  pub present : (q : ℕ) → q < max_processors → (phase_in s q ≡ idle → ⊥) → (i : ℕ) × OpenOf h q i

-- What counting at tick t does to a history.
pub record Advanced (t : ℕ) (h h' : History) : Type 0 where
  pub longer : length h.requests ≤ length h'.requests
  pub old : (i : ℕ) → i < length h.requests → Alike t (request h i) (request h' i)
  pub new : (i : ℕ) → length h.requests ≤ i → i < length h'.requests → wait_of t (request h' i) ≡ 0

pub record Step (t : ℕ) (h h' : History) (s' : State) : Type 0 where
  pub related : Related s' h'
  pub advanced : Advanced t h h'

advanced_through : {t : ℕ} {h h₁ h₂ : History} → Advanced t h h₁ → Advanced t h₁ h₂ → Advanced t h h₂
advanced_through {h = h} {h₁} f g =
    record {
      longer = le_trans f.longer g.longer;
      old = λ i l. alike_through (f.old i l) (g.old i (le_trans l f.longer));
      new = λ i past l.
          below_or_past i (length h₁.requests) (λ m. (g.old i m).wait ∙ f.new i past m) (λ m. g.new i m l);
    }

pub related_fresh : Related fresh_state nothing
related_fresh =
    record {
      last = refl;
      each = λ i l. absurd (not-suc-le-zero l);
      apart = λ q i j f g. absurd (not-suc-le-zero f.listed);
      present = λ q l a. absurd (a (fresh_idle q));
    }

-- ---- every request changed

-- A change of all requests, from the state s to s' at tick t, that ends only requests of processors that are then idle.
record Changes (t : ℕ) (s s' : State) (f : Request → Request) : Type 0 where
  tied : (r : Request) → Tied s r → Tied s' (f r)
  alike : (r : Request) → Alike t r (f r)
  stays_open : (r : Request) → (phase_in s' r.processor ≡ idle → ⊥) → r.end ≡ never → (f r).end ≡ never
  was_active : (q : ℕ) → q < max_processors → (phase_in s' q ≡ idle → ⊥) → phase_in s q ≡ idle → ⊥

module _ (t : ℕ) (s s' : State) (f : Request → Request) (k : Changes t s s' f) (h : History) (rel : Related s h)
    (now : t ≡ s'.last) where
  abbrev h' : History
  h' = record { requests = map f h.requests; last = t }

  same_length : length h'.requests ≡ length h.requests
  same_length = length-map h.requests f

  listed : (i : ℕ) → i < length h'.requests → i < length h.requests
  listed i l = omega (arith, same_length)

  changed_at : (i : ℕ) → i < length h.requests → request h' i ≡ f (request h i)
  changed_at i l = get_d_map f h.requests i (arrival 0 0 0) (arrival 0 0 0) l

  alike_at : (i : ℕ) → i < length h.requests → Alike t (request h i) (request h' i)
  alike_at i l = subst (Alike t (request h i)) (sym (changed_at i l)) (k.alike (request h i))

  open_before : (q i : ℕ) → OpenOf h' q i → OpenOf h q i
  open_before q i o =
      let l = listed i o.listed in
      record {
        listed = l;
        no_end = (alike_at i l).was_open o.no_end;
        processor = sym (alike_at i l).processor
            ∙ o.processor;
      }

  open_after : (q i : ℕ) → (phase_in s' q ≡ idle → ⊥) → OpenOf h q i → OpenOf h' q i
  open_after q i a o =
      record {
        listed = omega (arith, same_length, o.listed);
        no_end =
            ap (λ r. r.end) (changed_at i o.listed)
            ∙ k.stays_open (request h i) (λ e. a (ap (phase_in s') (sym o.processor) ∙ e)) o.no_end;
        processor = (alike_at i o.listed).processor ∙ o.processor;
      }

  changed_step : Step t h (record { requests = map f h.requests; last = t }) s'
  changed_step =
      record {
        related =
            record {
              last = now;
              each =
                  λ i l. subst (Tied s') (sym (changed_at i (listed i l)))
                  (k.tied (request h i) (rel.each i (listed i l)));
              apart = λ q i j x y. rel.apart q i j (open_before q i x) (open_before q j y);
              present = λ q l a.
                  let found = rel.present q l (k.was_active q l a) in
                  (found.0, open_after q found.0 a found.1);
            };
        advanced =
            record {
              longer = omega (arith, same_length);
              old = alike_at;
              new = λ i past l. absurd (omega (arith, same_length));
            };
      }

taken_changes : (s x : State) (t p : ℕ) → Begun s x t (takes p) → Changes t s x (ending p t)
taken_changes s x t p f =
    record {
      tied = tied_taken s x t p f;
      alike = ending_alike p t;
      stays_open =
          λ r a e. ap (λ r. r.end) (ending_other p t r (λ same. a (ap (phase_in x) same ∙ f.own.now_idle))) ∙ e;
      was_active = λ q l a k.
          by_processor q p (λ same. a (ap (phase_in x) same ∙ f.own.now_idle))
          (λ other. a ((f.others q l other).phase ∙ k));
    }

granted_changes : (x s' : State) (g : ℕ) → Settles x s' g → Changes x.last x s' (granting g x.last)
granted_changes x s' g h =
    record {
      tied = tied_granted x s' g h;
      alike = granting_alike g x.last;
      stays_open = λ r a e. granting_end g x.last r ∙ e;
      was_active = λ q l a k. a (idle_stays (h.rises q l) k);
    }

-- ---- one more request

module _ (s x : State) (t p e : ℕ) (f : Begun s x t (puts p e)) (h : History) (rel : Related s h) where
  abbrev h₁ : History
  h₁ = record { requests = h.requests ++ (arrival p e t ∷ []); last = t }

  abbrev n : ℕ
  n = length h.requests

  one_request_more : length h₁.requests ≡ suc n
  one_request_more = length_more h.requests (arrival p e t)

  old_at : (i : ℕ) → i < n → request h₁ i ≡ request h i
  old_at i l = get_or-append h.requests (arrival p e t ∷ []) (arrival 0 0 0) i l

  new_at : (i : ℕ) → i ≡ n → request h₁ i ≡ arrival p e t
  new_at i same = ap (request h₁) same ∙ get_or-append_seam h.requests (arrival p e t) [] (arrival 0 0 0)

  -- A place of the longer list is one of the old list, or the last.
  place : {A : Type 0} (i : ℕ) → i < length h₁.requests → (i < n → A) → (i ≡ n → A) → A
  place i l below last = ⊎_elim last below (eq-or-lt_of_le (le_of_suc-le-suc (subst (λ (k : ℕ). i < k) one_request_more l)))

  was_open : (q i : ℕ) → i < n → OpenOf h₁ q i → OpenOf h q i
  was_open q i l o =
      record {
        listed = l;
        no_end = sym (ap (λ r. r.end) (old_at i l)) ∙ o.no_end;
        processor = sym (ap (λ r. r.processor) (old_at i l)) ∙ o.processor;
      }

  -- No old request of p is without an end.
  not_both : (q i j : ℕ) → i < n → j ≡ n → OpenOf h₁ q i → OpenOf h₁ q j → ⊥
  not_both q i j l same oi oj =
      let o = was_open q i l oi in
      let is_p : (request h i).processor ≡ p =
      o.processor ∙ sym oj.processor ∙ ap (λ r. r.processor) (new_at j same) in
      open_active s (request h i) (rel.each i l) o.no_end (ap (phase_in s) is_p ∙ f.own.was_idle)

  put_apart : (q i j : ℕ) → OpenOf h₁ q i → OpenOf h₁ q j → i ≡ j
  put_apart q i j oi oj =
      place i oi.listed
      (λ li.
      place j oj.listed (λ lj. rel.apart q i j (was_open q i li oi) (was_open q j lj oj))
      (λ last. absurd (not_both q i j li last oi oj)))
      (λ last. place j oj.listed (λ lj. absurd (not_both q j i lj last oj oi)) (λ last'. last ∙ sym last'))

  put_present : (q : ℕ) → q < max_processors → (phase_in x q ≡ idle → ⊥) → (i : ℕ) × OpenOf h₁ q i
  put_present q l a =
      by_processor q p
      (λ same. (
        n,
        record {
          listed = omega (arith, one_request_more);
          no_end = ap (λ r. r.end) (new_at n refl);
          processor = ap (λ r. r.processor) (new_at n refl) ∙ sym same;
        },
      ))
      (λ other.
      let found = rel.present q l (λ k. a ((f.others q l other).phase ∙ k)) in
      let li = found.1.listed in (
        found.0,
        record {
          listed = omega (arith, one_request_more, li);
          no_end = ap (λ r. r.end) (old_at found.0 li) ∙ found.1.no_end;
          processor = ap (λ r. r.processor) (old_at found.0 li) ∙ found.1.processor;
        },
      ))

  put_step : Step t h (record { requests = h.requests ++ (arrival p e t ∷ []); last = t }) x
  put_step =
      record {
        related =
            record {
              last = sym f.last;
              each = λ i l.
                  place i l (λ m. subst (Tied x) (sym (old_at i m))
                  (tied_put s x t p e f (request h i) (rel.each i m)))
                  (λ m. subst (Tied x) (sym (new_at i m)) (tied_arrival s x t p e f));
              apart = put_apart;
              present = put_present;
            };
        advanced =
            record {
              longer = omega (arith, one_request_more);
              old = λ i l. subst (Alike t (request h i)) (sym (old_at i l)) (alike_same t (request h i));
              new = λ i past l.
                  place i l (λ m. absurd (omega arith)) (λ m. ap (wait_of t) (new_at i m) ∙ arrival_waits p e t);
            };
      }

-- ---- an act and its grants

act_step : (s x : State) (t : ℕ) (a : Act) → Begun s x t a → (h : History) → Related s h
    → Step t h (record { requests = acting t a h.requests; last = t }) x
act_step s x t (puts p e) f h rel = put_step s x t p e f h rel
act_step s x t (takes p) f h rel = changed_step t s x (ending p t) (taken_changes s x t p f) h rel (sym f.last)

-- What is counted for a call at t that carries out the act a, with the mask g of grants.
abbrev pub after_act : History → ℕ → Act → ℕ → History
after_act h t a g = record { requests = map (granting g t) (acting t a h.requests); last = t }

pub act_counted : (b : Board) (s : State) (t : ℕ) (a : Act) (s' : State) (g : ℕ) → ActDone b s t a s' g → (h : History)
    → Related s h
    → Step t h (after_act h t a g) s'
act_counted b s t a s' g d h rel =
    let first = act_step s d.start t a d.begun h rel in
    let h₁ : History = record { requests = acting t a h.requests; last = t } in
    let second : Step t h₁ (after_act h t a g) s' =
    subst (λ (n : ℕ). Step n h₁ (record { requests = map (granting g n) h₁.requests; last = n }) s') d.begun.last
    (changed_step d.start.last d.start s' (granting g d.start.last)
    (granted_changes d.start s' g d.settles) h₁
    first.related (sym d.settles.last)) in
    record { related = second.related; advanced = advanced_through first.advanced second.advanced }
