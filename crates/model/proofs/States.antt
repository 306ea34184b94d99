-- A step leads from states of the system to states of the system. Assumes nothing.
use Rattle.std.proofs.Common.{◌≡◌, ℕ, ◌<◌, List, [], ◌∷◌, ◌++◌, set, sym, ap, ◌∙◌, subst, arith, length-set}
use Rattle.std.proofs.lemmas.Grind.{common_steps}
use Rattle.model.specs.declared.rule.Action.{Action}
use Rattle.model.specs.declared.rule.Action.TheVariants.{Local, Take, Send}
use Rattle.model.specs.declared.rule.Rule.{Rule}
use Rattle.model.specs.Queue.{Over}
use Rattle.model.specs.System.{System, machines, states_of, rule_of, ActionFits, RuleFits, WellFormed}
use Rattle.model.specs.State.{State, queue_at, start, IsState}
use Rattle.model.specs.Steps.{moved, Acts, Step, Reaches, begin, onward}
use Rattle.model.specs.Laws.{RuleDetermines, ReachedIsState}

pub over_back : (m e : ℕ) (Q : List ℕ) → e < m → Over m Q → Over m (Q ++ (e ∷ []))
over_back m e [] h o = (h, tt)
over_back m e (x ∷ Q) h o = (o.0, over_back m e Q h o.1)

module _ (S : System) where
  pub is_set : (s : State) (i l : ℕ) (Q : List ℕ) → IsState S s → i < machines S → l < states_of S i → Over S.events Q → IsState S (set s i (l, Q))
  is_set s i l Q is h hl o = record {
    entries = length-set s i (l, Q) ∙ is.entries;
    locals = λ j hj. grind (arith, common_steps, is.entries, is.locals j hj);
    queues = λ j hj. grind (arith, common_steps, is.entries, is.queues j hj);
  }

  pub start_is : WellFormed S → IsState S (start S)
  start_is w = record {
    entries = grind (arith, common_steps);
    locals = λ j hj. grind (arith, common_steps, w.some_states j hj);
    queues = λ j hj. grind (arith, common_steps);
  }

  acts_is : (x : Rule) (s t : State) → IsState S s → RuleFits S x → (a : Action) → ActionFits S a → Acts a x s t → IsState S t
  acts_is x s t is f Local n h = subst (IsState S) (sym h) (is_set s x.machine x.to _ is f.machine f.to (is.queues x.machine f.machine))
  acts_is x s t is f (Take e) n (Q, q, h) = subst (IsState S) (sym h) (is_set s x.machine x.to Q is f.machine f.to (subst (Over S.events) q (is.queues x.machine f.machine)).1)
  acts_is x s t is f (Send e d) n h =
      let u = moved x (queue_at s x.machine) s in
      let is2 : IsState S u = is_set s x.machine x.to _ is f.machine f.to (is.queues x.machine f.machine) in
      subst (IsState S) (sym h) (is_set u d _ _ is2 n.1 (is2.locals d n.1) (over_back S.events e _ n.0 (is2.queues d n.1)))

  pub step_is : WellFormed S → (s t : State) → IsState S s → Step S s t → IsState S t
  step_is w s t is (r, l, m) = acts_is (rule_of S r) s t is (w.rules r l) (rule_of S r).action (w.rules r l).action m.1

  reached_is : WellFormed S → (s : State) → Reaches S s → IsState S s
  reached_is w _ begin = start_is w
  reached_is w t (onward {s} p h) = step_is w s t (reached_is w s p) h

pub reached_is_state : ReachedIsState
reached_is_state S w s r = reached_is S w s r

acts_one : (a : Action) (x : Rule) (s t u : State) → Acts a x s t → Acts a x s u → t ≡ u
acts_one Local x s t u h k = h ∙ sym k
acts_one (Take e) x s t u (Q, q, h) (R, r, k) = let same : Q ≡ R = cc in h ∙ ap (λ (z : List ℕ). moved x z s) same ∙ sym k
acts_one (Send e d) x s t u h k = h ∙ sym k

pub rule_determines : RuleDetermines
rule_determines x s t u h k = acts_one x.action x s t u h.1 k.1
