-- No queue becomes longer than the capacity, and no machine comes or goes. Assumes nothing.
use Rattle.std.proofs.Common.{◌≡◌, ℕ, ◌≤◌, List, [], ◌∷◌, ◌++◌, length, drop, set, Some, None, Option, sym, ap, ◌∙◌, subst, inl, inr, refl, arith, length-set, length-drop, length-append, get_or-set_other, get_or-set_same}
use lib.Seq.{set_out}
use Rattle.std.proofs.lemmas.Bool.{cases_eq, cases_lt}
use Rattle.model.specs.declared.fault.Refusal.{Refusal}
use Rattle.model.specs.declared.rule.Action.{Action}
use Rattle.model.specs.declared.rule.Action.TheVariants.{Local, Take, Send}
use Rattle.model.specs.declared.rule.Rule.{Rule}
use Rattle.model.specs.State.{State, queue_at}
use Rattle.model.specs.Steps.{moved}
use Rattle.controller.specs.Exact.{Room}
use Rattle.controller.specs.Held.{Short}
use Rattle.controller.specs.Reference.{blocked, acted, unless}
use Rattle.controller.proofs.Blocked.{queue_put_back, free_acting, free_room}

module _ (cap : ℕ) where
  short_put : (s : State) (i l : ℕ) (Q : List ℕ) → Short cap s → length Q ≤ cap → Short cap (set s i (l, Q))
  short_put s i l Q h few k = elim (cases_eq k i) [
    | inl e ↦ elim (cases_lt i (length s)) [
      | inl lt ↦ rw (e, ap (λ (v : ℕ × List ℕ). v.1) (get_or-set_same s i (l, Q) (0, []) lt)) few
      | inr ge ↦ rw (ap (λ (t : State). queue_at t k) (set_out s i (l, Q) ge)) (h k)
    ]
    | inr ne ↦ rw (ap (λ (v : ℕ × List ℕ). v.1) (get_or-set_other s i k (l, Q) (0, []) ne)) (h k)
  ]

  short_moved : (s : State) (x : Rule) → Short cap s → Short cap (moved x (queue_at s x.machine) s)
  short_moved s x h = short_put s x.machine x.to (queue_at s x.machine) h (h x.machine)

  short_acted : (s : State) (x : Rule) (a : Action) → Short cap s → Room cap a s → Short cap (acted a x s)
  short_acted s x Local h room = short_moved s x h
  short_acted s x (Take e) h room = short_put s x.machine x.to (drop 1 (queue_at s x.machine)) h (omega (arith, length-drop 1 (queue_at s x.machine), h x.machine))
  short_acted s x (Send e d) h room =
      let t = moved x (queue_at s x.machine) s in
      let same : queue_at t d ≡ queue_at s d = queue_put_back s x.machine x.to d in
      short_put t d _ (queue_at t d ++ (e ∷ [])) (short_moved s x h) (omega (arith, length-append (queue_at t d) (e ∷ []), ap length same, room))

  module _ (s : State) (x : Rule) where
    pub short_fired : (t : State) → t ≡ unless (blocked cap s x) s (acted x.action x s) → Short cap s → Short cap t
    short_fired t is h = subst (Short cap) (sym is) (go (blocked cap s x) refl)
      where
        go : (o : Option Refusal) → blocked cap s x ≡ o → Short cap (unless o s (acted x.action x s))
        go None free = short_acted s x x.action h (free_room cap s x.machine x.action (free_acting cap s x free))
        go (Some n) e = h

length_acted : (a : Action) (x : Rule) (s : State) → length (acted a x s) ≡ length s
length_acted Local x s = length-set s x.machine _
length_acted (Take e) x s = length-set s x.machine _
length_acted (Send e d) x s = length-set (moved x (queue_at s x.machine) s) d _ ∙ length-set s x.machine _

pub length_unless : (o : Option Refusal) (x : Rule) (s : State) → length (unless o s (acted x.action x s)) ≡ length s
length_unless None x s = length_acted x.action x s
length_unless (Some n) x s = refl
