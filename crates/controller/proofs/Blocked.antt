-- A rule that is not blocked. Assumes nothing.
use Rattle.std.proofs.Common.{◌≡◌, ℕ, ◌<◌, List, [], ◌∷◌, length, drop, set, Some, None, Option, sym, ap, ◌∙◌, inl, inr, get_or-set_other, get_or-set_same}
use lib.Seq.{set_out}
use Rattle.std.proofs.lemmas.Bool.{cases_eq, cases_lt, eq-eqb, ne_eqb, le-ltb}
use Rattle.model.specs.declared.fault.Refusal.TheVariants.{OtherState, QueueEmpty, OtherFront, QueueFull}
use Rattle.model.specs.declared.rule.Action.{Action}
use Rattle.model.specs.declared.rule.Action.TheVariants.{Local, Take, Send}
use Rattle.model.specs.declared.rule.Rule.{Rule}
use Rattle.model.specs.State.{State, local_at, queue_at}
use Rattle.controller.specs.Exact.{Room}
use Rattle.controller.specs.Reference.{taking, acting, blocked}

-- one machine's queue put back leaves every queue
pub queue_put_back : (s : State) (i l k : ℕ) → queue_at (set s i (l, queue_at s i)) k ≡ queue_at s k
queue_put_back s i l k = elim (cases_eq k i) [
  | inl e ↦ elim (cases_lt i (length s)) [
    | inl lt ↦ rw e (ap (λ (v : ℕ × List ℕ). v.1) (get_or-set_same s i (l, queue_at s i) (0, []) lt))
    | inr ge ↦ ap (λ (t : State). queue_at t k) (set_out s i (l, queue_at s i) ge)
  ]
  | inr ne ↦ ap (λ (v : ℕ × List ℕ). v.1) (get_or-set_other s i k (l, queue_at s i) (0, []) ne)
]

pub never : {A : Type 0} {n : A} → ◌≡◌ {A = Option A} (Some n) None → ⊥
never e = cc

-- what a rule that is not blocked has: its machine is where it leads from, the event to take is in front, and there is room
module _ (cap : ℕ) (s : State) (x : Rule) where
  pub free_from : blocked cap s x ≡ None → local_at s x.machine ≡ x.from
  free_from free = elim (cases_eq (local_at s x.machine) x.from) [
    | inl e ↦ e
    | inr ne ↦ absurd (never {n = OtherState} (sym (simp (ne_eqb (local_at s x.machine) x.from ne)) ∙ free))
  ]

  pub free_acting : blocked cap s x ≡ None → acting cap s x.machine x.action ≡ None
  free_acting free = sym (simp (eq-eqb (local_at s x.machine) x.from (free_from free))) ∙ free

pub taking_free : (e : ℕ) (Q : List ℕ) → taking e Q ≡ None → Q ≡ e ∷ drop 1 Q
taking_free e [] h = absurd (never {n = QueueEmpty} h)
taking_free e (f ∷ Q) h = elim (cases_eq f e) [
  | inl same ↦ ap (λ (n : ℕ). n ∷ Q) same
  | inr ne ↦ absurd (never {n = OtherFront} (sym (simp (ne_eqb f e ne)) ∙ h))
]

pub sending_free : (cap : ℕ) (s : State) (i e d : ℕ) → acting cap s i (Send e d) ≡ None → length (queue_at s d) < cap
sending_free cap s i e d h = elim (cases_lt (length (queue_at s d)) cap) [
  | inl lt ↦ lt
  | inr ge ↦ absurd (never {n = QueueFull} (sym (simp (le-ltb (length (queue_at s d)) cap ge)) ∙ h))
]

-- a rule that is not blocked has room
pub free_room : (cap : ℕ) (s : State) (i : ℕ) (a : Action) → acting cap s i a ≡ None → Room cap a s
free_room cap s i Local h = tt
free_room cap s i (Take e) h = tt
free_room cap s i (Send e d) h = sending_free cap s i e d h
