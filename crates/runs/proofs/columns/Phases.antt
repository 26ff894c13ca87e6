-- Telling phases apart, and how a phase may rise while a call settles. Assumes nothing.
use mathlib.Core.Path.{◌≡◌, refl, sym, ◌∙◌, subst}
use mathlib.Core.Bool.{Bool, true, false}
use mathlib.Core.Logic.{◌⊎◌, inl, inr}
use Rattle.runs.proofs.columns.Columns.{Phase, idle, waiting, entitled, holding}

-- Two different phases.
abbrev pub Apart : Phase → Phase → Type 0
Apart idle idle = ⊥
Apart idle waiting = Unit {0}
Apart idle entitled = Unit {0}
Apart idle holding = Unit {0}
Apart waiting idle = Unit {0}
Apart waiting waiting = ⊥
Apart waiting entitled = Unit {0}
Apart waiting holding = Unit {0}
Apart entitled idle = Unit {0}
Apart entitled waiting = Unit {0}
Apart entitled entitled = ⊥
Apart entitled holding = Unit {0}
Apart holding idle = Unit {0}
Apart holding waiting = Unit {0}
Apart holding entitled = Unit {0}
Apart holding holding = ⊥

not_apart_from_itself : (a : Phase) → Apart a a → ⊥
not_apart_from_itself idle h = h
not_apart_from_itself waiting h = h
not_apart_from_itself entitled h = h
not_apart_from_itself holding h = h

-- Nothing is in two different phases: `clash h k tt`.
pub clash : {x a b : Phase} → x ≡ a → x ≡ b → Apart a b → ⊥
clash {x} {a} {b} h k d = not_apart_from_itself a (subst (Apart a) (sym k ∙ h) d)

abbrev Truth : Bool → Type 0
Truth true = Unit {0}
Truth false = ⊥

pub true_not_false : {b : Bool} → b ≡ true → b ≡ false → ⊥
true_not_false h k = subst Truth (sym h ∙ k) tt

abbrev pub Unsatisfied : Phase → Type 0
Unsatisfied a = (a ≡ waiting) ⊎ (a ≡ entitled)

abbrev pub EntitledOrHolding : Phase → Type 0
EntitledOrHolding a = (a ≡ entitled) ⊎ (a ≡ holding)

pub is_active_law : {a b : Phase} → a ≡ b → Apart b idle → a ≡ idle → ⊥
is_active_law h d k = clash h k d

pub unsatisfied_or_holding : (a : Phase) → (a ≡ idle → ⊥) → Unsatisfied a ⊎ (a ≡ holding)
unsatisfied_or_holding idle active = absurd (active refl)
unsatisfied_or_holding waiting active = inl (inl refl)
unsatisfied_or_holding entitled active = inl (inr refl)
unsatisfied_or_holding holding active = inr refl

pub unsatisfied_active : {a : Phase} → Unsatisfied a → a ≡ idle → ⊥
unsatisfied_active (inl h) = is_active_law h tt
unsatisfied_active (inr h) = is_active_law h tt

pub unsatisfied_not_holding : {a : Phase} → Unsatisfied a → a ≡ holding → ⊥
unsatisfied_not_holding (inl e) h = clash e h tt
unsatisfied_not_holding (inr e) h = clash e h tt

pub entitled_or_holding_active : {a : Phase} → EntitledOrHolding a → a ≡ idle → ⊥
entitled_or_holding_active (inl h) = is_active_law h tt
entitled_or_holding_active (inr h) = is_active_law h tt

pub entitled_or_holding_not_waiting : {a : Phase} → EntitledOrHolding a → a ≡ waiting → ⊥
entitled_or_holding_not_waiting (inl h) k = clash h k tt
entitled_or_holding_not_waiting (inr h) k = clash h k tt

-- How a phase may move from a to b while a call settles: waiting to entitled to holding.
pub data Rises (a b : Phase) : Type 0 where
  same : b ≡ a → Rises a b
  becomes_entitled : a ≡ waiting → b ≡ entitled → Rises a b
  begins_to_hold : Unsatisfied a → b ≡ holding → Rises a b

pub rises_rises : {a b c : Phase} → Rises a b → Rises b c → Rises a c
rises_rises (same p) (same q) = same (q ∙ p)
rises_rises (same p) (becomes_entitled w e) = becomes_entitled (sym p ∙ w) e
rises_rises (same p) (begins_to_hold u h) = begins_to_hold (subst Unsatisfied p u) h
rises_rises (becomes_entitled w e) (same q) = becomes_entitled w (q ∙ e)
rises_rises (becomes_entitled w e) (becomes_entitled v f) = absurd (clash e v tt)
rises_rises (becomes_entitled w e) (begins_to_hold u h) = begins_to_hold (inl w) h
rises_rises (begins_to_hold u h) (same q) = begins_to_hold u (q ∙ h)
rises_rises (begins_to_hold u h) (becomes_entitled v f) = absurd (clash h v tt)
rises_rises (begins_to_hold u h) (begins_to_hold v k) = begins_to_hold u k

pub idle_stays : {a b : Phase} → Rises a b → a ≡ idle → b ≡ idle
idle_stays (same p) h = p ∙ h
idle_stays (becomes_entitled w e) h = absurd (clash w h tt)
idle_stays (begins_to_hold u k) h = absurd (unsatisfied_active u h)

pub idle_was_idle : {a b : Phase} → Rises a b → b ≡ idle → a ≡ idle
idle_was_idle (same p) h = sym p ∙ h
idle_was_idle (becomes_entitled w e) h = absurd (clash e h tt)
idle_was_idle (begins_to_hold u k) h = absurd (clash k h tt)

pub holding_stays : {a b : Phase} → Rises a b → a ≡ holding → b ≡ holding
holding_stays (same p) h = p ∙ h
holding_stays (becomes_entitled w e) h = absurd (clash w h tt)
holding_stays (begins_to_hold u k) h = k

pub waiting_was_waiting : {a b : Phase} → Rises a b → b ≡ waiting → a ≡ waiting
waiting_was_waiting (same p) h = sym p ∙ h
waiting_was_waiting (becomes_entitled w e) h = absurd (clash e h tt)
waiting_was_waiting (begins_to_hold u k) h = absurd (clash k h tt)

pub entitled_or_holding_stays : {a b : Phase} → Rises a b → EntitledOrHolding a → EntitledOrHolding b
entitled_or_holding_stays (same p) h = subst EntitledOrHolding (sym p) h
entitled_or_holding_stays (becomes_entitled w e) h = inl e
entitled_or_holding_stays (begins_to_hold u k) h = inr k
