-- A fire of the reference controller is a step of the system. Assumes nothing.
use Rattle.std.proofs.Common.{◌≡◌, ℕ, ◌<◌, ◌≤◌, length, drop, Some, None, Option, Result, sym, refl, ap, ◌∙◌, subst, inl, inr, arith}
use Rattle.std.specs.List.{slice_get}
use Rattle.std.proofs.lemmas.Option.{slice_get_within, get_or_from_slice_get}
use Rattle.std.proofs.lemmas.Bool.{cases_lt, eq-eqb, lt-ltb, le-ltb}
use Rattle.model.specs.declared.fault.Fault.{Fault}
use Rattle.model.specs.declared.fault.Refusal.{Refusal}
use Rattle.model.specs.declared.fault.Refusal.TheVariants.{NoRule}
use Rattle.model.specs.declared.rule.Action.{Action}
use Rattle.model.specs.declared.rule.Action.TheVariants.{Local, Take, Send}
use Rattle.model.specs.declared.rule.Rule.{Rule}
use Rattle.model.specs.System.{System, rule_of}
use Rattle.model.specs.State.{State, local_at, queue_at}
use Rattle.model.specs.Steps.{Acts, Makes}
use Rattle.controller.specs.Exact.{Room, Fires}
use Rattle.controller.specs.Promises.{ExactSteps}
use Rattle.controller.specs.Reference.{acting, blocked, refusal, acted, unless, fired, next}
use Rattle.controller.specs.declared.call.Call.TheVariants.{Fire}
use Rattle.controller.proofs.Blocked.{never, free_from, free_acting, free_room, taking_free}

module _ (cap : ℕ) (s : State) (x : Rule) where
  acts_acted : (a : Action) → acting cap s x.machine a ≡ None → Acts a x s (acted a x s)
  acts_acted Local free = refl
  acts_acted (Take e) free = (drop 1 (queue_at s x.machine), taking_free e (queue_at s x.machine) free, refl)
  acts_acted (Send e d) free = refl

  acts_free : (a : Action) (u : State) → Acts a x s u → Room cap a s → acting cap s x.machine a ≡ None
  acts_free Local u h room = refl
  acts_free (Take e) u (Q, q, h) room = simp (q, eq-eqb e e refl)
  acts_free (Send e d) u h room = simp (lt-ltb (length (queue_at s d)) cap room)

  -- a rule that makes a state for which there is room is not blocked
  may_free : (u : State) → Makes x s u → Room cap x.action s → blocked cap s x ≡ None
  may_free u m room = simp (eq-eqb (local_at s x.machine) x.from m.0) (acts_free x.action u m.1 room)

-- what is refused of rule number r, if the system has it and if not
module _ (S : System) (cap : ℕ) (s : State) (r : ℕ) where
  refusal_there : r < length S.rules → refusal S cap s r ≡ blocked cap s (rule_of S r)
  refusal_there h = simp (lt-ltb r (length S.rules) h)

  refusal_beyond : length S.rules ≤ r → refusal S cap s r ≡ Some NoRule
  refusal_beyond h = simp (le-ltb r (length S.rules) h)

  pub rule_named : (x : Rule) → slice_get S.rules r ≡ Some x → rule_of S r ≡ x
  rule_named x e = get_or_from_slice_get S.rules r x _ e

  pub refusal_named : (x : Rule) → slice_get S.rules r ≡ Some x → refusal S cap s r ≡ blocked cap s x
  refusal_named x e = refusal_there (slice_get_within S.rules r x e) ∙ ap (blocked cap s) (rule_named x e)

  -- from what is answered of a rule to what is answered of its number
  module _ (x : Rule) (e : slice_get S.rules r ≡ Some x) where
    pub next_named : (t : State) → t ≡ unless (blocked cap s x) s (acted x.action x s) → t ≡ next S cap s (Fire r)
    next_named t h = h ∙ sym (ap (λ (y : Rule). unless (blocked cap s x) s (acted y.action y s)) (rule_named x e)) ∙ sym (ap (λ (o : Option Refusal). unless o s (acted (rule_of S r).action (rule_of S r) s)) (refusal_named x e))

  exact_there : r < length S.rules → (o : Option Refusal) → blocked cap s (rule_of S r) ≡ o → Fires S cap r s (unless o s (acted (rule_of S r).action (rule_of S r) s)) (fired r o)
  exact_there h None e =
      let x = rule_of S r in
      let free = free_acting cap s x e in
      record { rule = h; makes = (free_from cap s x e, acts_acted cap s x x.action free); room = free_room cap s x.machine x.action free }
  exact_there h (Some n) e = (refl, λ u may. never (sym e ∙ may_free cap s (rule_of S r) u may.makes may.room))

  abbrev Exactly : Option Refusal → Type 0
  Exactly o = Fires S cap r s (unless o s (acted (rule_of S r).action (rule_of S r) s)) (fired r o)

  pub exact : Exactly (refusal S cap s r)
  exact = elim (cases_lt r (length S.rules)) [
    | inl lt ↦ subst Exactly (sym (refusal_there lt)) (exact_there lt (blocked cap s (rule_of S r)) refl)
    | inr ge ↦ subst Exactly (sym (refusal_beyond ge)) (refl, λ u may. omega (arith, may.rule))
  ]

  -- the same of an answer and a state that are the reference's
  pub exact_at : (t : State) (a : Result (Unit {0}) Fault) → a ≡ fired r (refusal S cap s r) → t ≡ next S cap s (Fire r) → Fires S cap r s t a
  exact_at t a ea et = subst (λ (v : State). Fires S cap r s v a) (sym et) (subst (λ (b : Result (Unit {0}) Fault). Fires S cap r s (next S cap s (Fire r)) b) (sym ea) exact)

pub exact_steps : (S : System) → ExactSteps S
exact_steps S cap r s = exact S cap s r
