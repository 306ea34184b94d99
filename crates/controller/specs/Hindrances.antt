-- What can keep a rule from being fired, in the order in which it counts. Assumes nothing.
use Rattle.std.specs.Prelude.{◌≡◌, ℕ, ◌≤◌, List, [], ◌∷◌, length, ◌≢◌}
use Rattle.model.specs.declared.fault.Fault.{Fault}
use Rattle.model.specs.declared.fault.Refusal.TheVariants.{NoRule, OtherState, QueueEmpty, OtherFront, QueueFull}
use Rattle.model.specs.declared.rule.Action.TheVariants.{Take, Send}
use Rattle.model.specs.Order.{Order, one, ◌then◌}
use Rattle.model.specs.System.{System, rule_of}
use Rattle.model.specs.State.{State, local_at, queue_at}
use Rattle.table.specs.Header.{fault_at}

pub data Hindrance : Type 0 where
  no_rule : Hindrance
  other_state : Hindrance
  queue_empty : Hindrance
  other_front : Hindrance
  queue_full : Hindrance

-- when one is true of rule number r, under a capacity, in a state
abbrev pub Applies : System → ℕ → State → ℕ → Hindrance → Type 0
Applies S cap s r no_rule = length S.rules ≤ r
Applies S cap s r other_state = local_at s (rule_of S r).machine ≡ (rule_of S r).from → ⊥
Applies S cap s r queue_empty = (e : ℕ) × ((rule_of S r).action ≡ Take e) × (queue_at s (rule_of S r).machine ≡ [])
Applies S cap s r other_front = (e : ℕ) × (f : ℕ) × (Q : List ℕ) × ((rule_of S r).action ≡ Take e) × (queue_at s (rule_of S r).machine ≡ f ∷ Q) × (f ≢ e)
Applies S cap s r queue_full = (e : ℕ) × (d : ℕ) × ((rule_of S r).action ≡ Send e d) × (cap ≤ length (queue_at s d))

-- each with its number, and the rule number for A
abbrev pub numbers : ℕ → Hindrance → Fault
numbers r no_rule = fault_at NoRule r
numbers r other_state = fault_at OtherState r
numbers r queue_empty = fault_at QueueEmpty r
numbers r other_front = fault_at OtherFront r
numbers r queue_full = fault_at QueueFull r

abbrev pub order : Order Hindrance
order = one no_rule then one other_state then one queue_empty then one other_front then one queue_full
