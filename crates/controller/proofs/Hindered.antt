-- The refusal of the reference controller is that of the first hindrance that applies. Assumes nothing.
use Rattle.std.proofs.Common.{◌≡◌, ℕ, ◌<◌, ◌≤◌, Bool, cond, ltb, List, [], ◌∷◌, length, Some, None, Option, Result, sym, refl, ap, ◌∙◌, subst, inl, inr, arith}
use Rattle.std.proofs.lemmas.Bool.{cases_lt, cases_eq, eq-eqb, ne_eqb, lt-ltb, le-ltb}
use Rattle.model.specs.declared.fault.Fault.{Fault}
use Rattle.model.specs.declared.fault.Refusal.{Refusal}
use Rattle.model.specs.declared.fault.Refusal.TheVariants.{NoRule, OtherState, OtherFront, QueueFull}
use Rattle.model.specs.declared.rule.Action.{Action}
use Rattle.model.specs.declared.rule.Action.TheVariants.{Local, Take, Send}
use Rattle.model.specs.declared.rule.Rule.{Rule}
use Rattle.model.specs.Order.{Answered}
use Rattle.model.specs.System.{System, rule_of}
use Rattle.model.specs.State.{State, local_at, queue_at}
use Rattle.controller.specs.Hindrances.{no_rule, other_state, queue_empty, other_front, queue_full, Applies, numbers, order}
use Rattle.controller.specs.Reference.{taking, acting, blocked, refusal, fired}

module _ (S : System) (cap : ℕ) (s : State) (r : ℕ) where
  abbrev Says : Option Refusal → Type 0
  Says o = Answered (Applies S cap s r) (numbers r) order (fired r o)

  abbrev x : Rule
  x = rule_of S r

  abbrev front : List ℕ
  front = queue_at s x.machine

  beyond : length S.rules ≤ r → Says (Some NoRule)
  beyond ge = record { finding = no_rule; numbered = refl; first = inl (refl, ge) }

  module _ (h : r < length S.rules) where
    there : length S.rules ≤ r → ⊥
    there ge = omega arith

    elsewhere : (local_at s x.machine ≡ x.from → ⊥) → Says (Some OtherState)
    elsewhere ne = record { finding = other_state; numbered = refl; first = inr (there, inl (refl, ne)) }

    module _ (l : local_at s x.machine ≡ x.from) where
      here : (local_at s x.machine ≡ x.from → ⊥) → ⊥
      here ne = ne l

      local_free : x.action ≡ Local → Says None
      local_free is = (there, (here, ((λ (e, t, z). cc), ((λ (e, f, Q, t, z, ne). cc), (λ (e, d, t, z). cc)))))

      take_by : (e : ℕ) (q : List ℕ) → x.action ≡ Take e → front ≡ q → Says (taking e q)
      take_by e [] is z = record { finding = queue_empty; numbered = refl; first = inr (there, inr (here, inl (refl, (e, is, z)))) }
      take_by e (f ∷ Q) is z = elim (cases_eq f e) [
        | inl same ↦ subst (λ (b : Bool). Says (cond b None (Some OtherFront))) (sym (eq-eqb f e same))
            (there, (here, ((λ (k, t, y). cc), ((λ (k, g, R, t, y, ne). let a : g ≡ f = cc in let b : e ≡ k = cc in ne (a ∙ same ∙ b)), (λ (k, d, t, y). cc)))))
        | inr ne ↦ subst (λ (b : Bool). Says (cond b None (Some OtherFront))) (sym (ne_eqb f e ne))
            (record { finding = other_front; numbered = refl; first = inr (there, inr (here, inr ((λ (k, t, y). cc), inl (refl, (e, f, Q, is, z, ne))))) })
      ]

      send_by : (e d : ℕ) → x.action ≡ Send e d → Says (cond (ltb (length (queue_at s d)) cap) None (Some QueueFull))
      send_by e d is =
          let no_take : (k : ℕ) → x.action ≡ Take k → ⊥ = λ k t. cc in
          elim (cases_lt (length (queue_at s d)) cap) [
            | inl lt ↦ subst (λ (b : Bool). Says (cond b None (Some QueueFull))) (sym (lt-ltb (length (queue_at s d)) cap lt))
                (there, (here, ((λ (k, t, y). no_take k t), ((λ (k, g, R, t, y, ne). no_take k t), (λ (k, b, t, y). let same : d ≡ b = cc in omega (arith, y, ap (λ (i : ℕ). length (queue_at s i)) same))))))
            | inr ge ↦ subst (λ (b : Bool). Says (cond b None (Some QueueFull))) (sym (le-ltb (length (queue_at s d)) cap ge))
                (record { finding = queue_full; numbered = refl; first = inr (there, inr (here, inr ((λ (k, t, y). no_take k t), inr ((λ (k, g, R, t, y, ne). no_take k t), (refl, (e, d, is, ge)))))) })
          ]

      by_action : (a : Action) → x.action ≡ a → Says (acting cap s x.machine a)
      by_action Local is = local_free is
      by_action (Take e) is = take_by e front is refl
      by_action (Send e d) is = send_by e d is

    by_place : Says (blocked cap s x)
    by_place = elim (cases_eq (local_at s x.machine) x.from) [
      | inl l ↦ subst (λ (b : Bool). Says (cond b (acting cap s x.machine x.action) (Some OtherState))) (sym (eq-eqb (local_at s x.machine) x.from l)) (by_action l x.action refl)
      | inr ne ↦ subst (λ (b : Bool). Says (cond b (acting cap s x.machine x.action) (Some OtherState))) (sym (ne_eqb (local_at s x.machine) x.from ne)) (elsewhere ne)
    ]

  pub first_hindrance : Says (refusal S cap s r)
  first_hindrance = elim (cases_lt r (length S.rules)) [
    | inl lt ↦ subst (λ (b : Bool). Says (cond b (blocked cap s x) (Some NoRule))) (sym (lt-ltb r (length S.rules) lt)) (by_place lt)
    | inr ge ↦ subst (λ (b : Bool). Says (cond b (blocked cap s x) (Some NoRule))) (sym (le-ltb r (length S.rules) ge)) (beyond ge)
  ]

  -- the same of an answer that is the reference's
  pub first_at : (a : Result (Unit {0}) Fault) → a ≡ fired r (refusal S cap s r) → Answered (Applies S cap s r) (numbers r) order a
  first_at a e = subst (λ (b : Result (Unit {0}) Fault). Answered (Applies S cap s r) (numbers r) order b) (sym e) first_hindrance
