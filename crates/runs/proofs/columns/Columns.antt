-- The arbiter in columns: functions of a processor below n. Each settling step is a relation, processor by processor,
-- whose cases carry the reason for moving or for staying. This file only defines; what each definition says of a state
-- is proved elsewhere. Assumes nothing.
use Prim.Native.Nat.{ℕ, ◌<◌, ◌≤◌, ◌+◌}
use mathlib.Core.Path.{◌≡◌}
use mathlib.Core.Bool.{Bool, true, false}
use mathlib.Core.Logic.{◌⊎◌}

pub data Phase : Type 0 where
  idle waiting entitled holding : Phase

-- What does not change while a call settles: whether processor i's request is a write and in the group, which requests
-- conflict, and which are earlier (earlier j i: j's request is earlier than i's).
pub record Requests : Type 0 where
  pub write : ℕ → Bool
  pub group : ℕ → Bool
  pub against : ℕ → ℕ → Bool
  pub earlier : ℕ → ℕ → Bool

abbrev pub Exists : ℕ → (ℕ → Type 0) → Type 0
Exists n P = (j : ℕ) × (j < n) × P j

abbrev pub None : ℕ → (ℕ → Type 0) → Type 0
None n P = (j : ℕ) → j < n → P j → ⊥

-- Processor j's request is in the phase, is a write or not, and conflicts with i's.
pub record In (R : Requests) (ph : ℕ → Phase) (phase : Phase) (is_write : Bool) (i j : ℕ) : Type 0 where
  pub phase_is : ph j ≡ phase
  pub write_is : R.write j ≡ is_write
  pub conflict : R.against i j ≡ true

-- Processor j's request is an earlier unsatisfied write that conflicts with i's.
pub record EarlierUnsatisfied (R : Requests) (ph : ℕ → Phase) (i j : ℕ) : Type 0 where
  pub unsatisfied : (ph j ≡ waiting) ⊎ (ph j ≡ entitled)
  pub write_is : R.write j ≡ true
  pub before : R.earlier j i ≡ true
  pub conflict : R.against i j ≡ true

-- Step 1 grants entitled reads that conflict with no holding write, and waiting reads that conflict with no entitled or
-- holding write.
pub data Step1 (n : ℕ) (R : Requests) (ph ph' : ℕ → Phase) (i : ℕ) : Type 0 where
  grants : R.write i ≡ false → ph i ≡ entitled → None n (In R ph holding true i) → ph' i ≡ holding → Step1 n R ph ph' i
  grants_waiting : R.write i ≡ false → ph i ≡ waiting → None n (In R ph holding true i)
      → None n (In R ph entitled true i)
      → ph' i ≡ holding → Step1 n R ph ph' i
  stays : (ph i ≡ entitled → R.write i ≡ false → Exists n (In R ph holding true i)) → ph' i ≡ ph i → Step1 n R ph ph' i

pub data Step2 (n : ℕ) (R : Requests) (ph ph' : ℕ → Phase) (i : ℕ) : Type 0 where
  entitles : R.write i ≡ true → ph i ≡ waiting → None n (EarlierUnsatisfied R ph i) → None n (In R ph holding true i)
      → None n (In R ph entitled false i) → ph' i ≡ entitled → Step2 n R ph ph' i
  stays : (ph i ≡ waiting → R.write i ≡ true
      → Exists n (EarlierUnsatisfied R ph i) ⊎
      (Exists n (In R ph holding true i) ⊎ Exists n (In R ph entitled false i)))
      → ph' i ≡ ph i → Step2 n R ph ph' i

pub data Step3 (n : ℕ) (R : Requests) (ph ph' : ℕ → Phase) (i : ℕ) : Type 0 where
  grants : R.write i ≡ true → ph i ≡ entitled → None n (In R ph holding false i) → ph' i ≡ holding → Step3 n R ph ph' i
  stays : (ph i ≡ entitled → R.write i ≡ true → Exists n (In R ph holding false i)) → ph' i ≡ ph i → Step3 n R ph ph' i

pub data Step4 (n : ℕ) (R : Requests) (ph ph' : ℕ → Phase) (i : ℕ) : Type 0 where
  entitles : R.write i ≡ false → ph i ≡ waiting → Exists n (In R ph holding true i) → None n (In R ph entitled true i)
      → ph' i ≡ entitled → Step4 n R ph ph' i
  stays : (ph i ≡ waiting → R.write i ≡ false → None n (In R ph holding true i) ⊎ Exists n (In R ph entitled true i))
      → ph' i ≡ ph i → Step4 n R ph ph' i

-- What a call does before it settles: it adds one request, waiting and later than all others, or it removes one.
pub record PutIn (n : ℕ) (R R' : Requests) (ph ph' : ℕ → Phase) (p : ℕ) : Type 0 where
  pub below : p < n
  pub was_idle : ph p ≡ idle
  pub now_waiting : ph' p ≡ waiting
  pub others : (i : ℕ) → i < n → (i ≡ p → ⊥) → ph' i ≡ ph i
  pub same_write : (i : ℕ) → i < n → (i ≡ p → ⊥) → R'.write i ≡ R.write i
  pub same_group : (i : ℕ) → i < n → (i ≡ p → ⊥) → R'.group i ≡ R.group i
  pub same_against : (i j : ℕ) → i < n → j < n → (i ≡ p → ⊥) → (j ≡ p → ⊥) → R'.against i j ≡ R.against i j
  pub same_earlier : (j i : ℕ) → j < n → i < n → (j ≡ p → ⊥) → (i ≡ p → ⊥) → R'.earlier j i ≡ R.earlier j i
  pub active_earlier : (j : ℕ) → j < n → (ph j ≡ idle → ⊥) → R'.earlier j p ≡ true
  pub earlier_than_none : (i : ℕ) → i < n → R'.earlier p i ≡ false

pub record TakenOut (n : ℕ) (R R' : Requests) (ph ph' : ℕ → Phase) (p : ℕ) : Type 0 where
  pub below : p < n
  pub was_active : ph p ≡ idle → ⊥
  pub now_idle : ph' p ≡ idle
  pub others : (i : ℕ) → i < n → (i ≡ p → ⊥) → ph' i ≡ ph i
  pub same : R' ≡ R

pub data Start (n : ℕ) (R R' : Requests) (ph ph' : ℕ → Phase) : Type 0 where
  puts_in : (p : ℕ) → PutIn n R R' ph ph' p → Start n R R' ph ph'
  takes_out : (p : ℕ) → TakenOut n R R' ph ph' p → Start n R R' ph ph'

-- The tick of processor i's request after a call at t: the tick of its issue, or of its grant while it holds.
pub data Stamp (t : ℕ) (before after : Phase) (old new : ℕ) : Type 0 where
  begins : after ≡ holding → (before ≡ holding → ⊥) → new ≡ t → Stamp t before after old new
  arrives : before ≡ idle → new ≡ t → Stamp t before after old new
  keeps : (after ≡ holding → before ≡ holding) → (before ≡ idle → after ≡ idle) → new ≡ old
      → Stamp t before after old new

-- An accepted call at tick t, from one settled state to the next.
pub record Called (n t : ℕ) (R R' : Requests) (ph ph' : ℕ → Phase) (si si' : ℕ → ℕ) : Type 0 where
  pub ph₀ : ℕ → Phase
  pub ph₁ : ℕ → Phase
  pub ph₂ : ℕ → Phase
  pub ph₃ : ℕ → Phase
  pub start : Start n R R' ph ph₀
  pub first : (i : ℕ) → i < n → Step1 n R' ph₀ ph₁ i
  -- A read that step 1 leaves waiting conflicts with an entitled or a holding write.
  pub left : (i : ℕ) → i < n → R'.write i ≡ false → ph₁ i ≡ waiting
      → Exists n (In R' ph₁ holding true i) ⊎ Exists n (In R' ph₁ entitled true i)
  pub second : (i : ℕ) → i < n → Step2 n R' ph₁ ph₂ i
  pub third : (i : ℕ) → i < n → Step3 n R' ph₂ ph₃ i
  pub fourth : (i : ℕ) → i < n → Step4 n R' ph₃ ph' i
  pub stamps : (i : ℕ) → i < n → Stamp t (ph i) (ph' i) (si i) (si' i)

-- What is required of conflict, for active requests of different processors. Widening is there only for the bridge.
pub record Lawful (n : ℕ) (R : Requests) (ph : ℕ → Phase) : Type 0 where
  pub symmetric : (i j : ℕ) → i < n → j < n → R.against i j ≡ true → R.against j i ≡ true
  pub bridge : (r w v : ℕ) → r < n → w < n → v < n → (w ≡ v → ⊥) → (ph r ≡ idle → ⊥) → (ph w ≡ idle → ⊥)
      → (ph v ≡ idle → ⊥)
      → R.write r ≡ false → R.write w ≡ true → R.write v ≡ true → R.against r w ≡ true → R.against r v ≡ true
      → R.against w v ≡ true
  pub closed : (i j : ℕ) → i < n → j < n → R.against i j ≡ true → R.group i ≡ true → R.group j ≡ true

-- Being earlier is an order on the active requests.
pub record Ordered (n : ℕ) (R : Requests) (ph : ℕ → Phase) : Type 0 where
  pub never_itself : (i : ℕ) → i < n → (ph i ≡ idle → ⊥) → R.earlier i i ≡ false
  pub one_way : (i j : ℕ) → i < n → j < n → (ph i ≡ idle → ⊥) → (ph j ≡ idle → ⊥) → R.earlier i j ≡ true
      → R.earlier j i ≡ false
  pub total : (i j : ℕ) → i < n → j < n → (ph i ≡ idle → ⊥) → (ph j ≡ idle → ⊥) → (i ≡ j → ⊥)
      → (R.earlier i j ≡ true) ⊎ (R.earlier j i ≡ true)
  pub transitive : (i j k : ℕ) → i < n → j < n → k < n → (ph i ≡ idle → ⊥) → (ph j ≡ idle → ⊥) → (ph k ≡ idle → ⊥)
      → R.earlier i j ≡ true → R.earlier j k ≡ true → R.earlier i k ≡ true

-- What holds after each settling. I1: of two conflicting active writes the later is waiting. I2, I3: a read and a write
-- that conflict do not both hold, and are not both entitled. I4 to I7: what an entitled read, a waiting read, a waiting
-- write and an entitled write wait for.
pub record Settled (n : ℕ) (R : Requests) (ph : ℕ → Phase) : Type 0 where
  pub i1 : (i j : ℕ) → i < n → j < n → R.write i ≡ true → R.write j ≡ true → (ph i ≡ idle → ⊥) → (ph j ≡ idle → ⊥)
      → R.against i j ≡ true → R.earlier i j ≡ true → ph j ≡ waiting
  pub i2 : (i j : ℕ) → i < n → j < n → R.write i ≡ false → R.write j ≡ true → R.against i j ≡ true → ph i ≡ holding
      → ph j ≡ holding → ⊥
  pub i3 : (i j : ℕ) → i < n → j < n → R.write i ≡ false → R.write j ≡ true → R.against i j ≡ true → ph i ≡ entitled
      → ph j ≡ entitled → ⊥
  pub i4 : (i : ℕ) → i < n → R.write i ≡ false → ph i ≡ entitled → Exists n (In R ph holding true i)
  pub i5 : (i : ℕ) → i < n → R.write i ≡ false → ph i ≡ waiting → Exists n (In R ph entitled true i)
  pub i6 : (i : ℕ) → i < n → R.write i ≡ true → ph i ≡ waiting
      → (j : ℕ) × (j < n) × (R.write j ≡ true) × (ph j ≡ idle → ⊥) × (R.earlier j i ≡ true) × (R.against i j ≡ true)
  pub i7 : (i : ℕ) → i < n → R.write i ≡ true → ph i ≡ entitled → Exists n (In R ph holding false i)

-- Each holder of the group keeps to its length up to tick t.
abbrev pub Kept : ℕ → Requests → (ℕ → Phase) → (ℕ → ℕ) → (ℕ → ℕ) → ℕ → Type 0
Kept n R ph si len t = (i : ℕ) → i < n → R.group i ≡ true → ph i ≡ holding → t ≤ si i + len i
