-- What a fire does, as a relation between states. Assumes nothing.
use Rattle.std.specs.Prelude.{◌≡◌, ℕ, ◌<◌, length, Ok, Err, Result}
use Rattle.model.specs.declared.fault.Fault.{Fault}
use Rattle.model.specs.declared.rule.Action.{Action}
use Rattle.model.specs.declared.rule.Action.TheVariants.{Local, Take, Send}
use Rattle.model.specs.System.{System, rule_of}
use Rattle.model.specs.State.{State, queue_at}
use Rattle.model.specs.Steps.{Makes}

-- the target of a send has fewer waiting than the capacity
abbrev pub Room : ℕ → Action → State → Type 0
Room cap Local s = Unit {0}
Room cap (Take e) s = Unit {0}
Room cap (Send e d) s = length (queue_at s d) < cap

-- the system has rule r, the rule makes t of s, and there is room
pub record May (S : System) (cap r : ℕ) (s t : State) : Type 0 where
  pub rule : r < length S.rules
  pub makes : Makes (rule_of S r) s t
  pub room : Room cap (rule_of S r).action s

-- accepted: t is what the rule makes of s; refused: the state stays, and the rule makes nothing of it for which there is room
abbrev pub Fires : System → ℕ → ℕ → State → State → Result (Unit {0}) Fault → Type 0
Fires S cap r s t (Ok u) = May S cap r s t
Fires S cap r s t (Err f) = (t ≡ s) × ((u : State) → May S cap r s u → ⊥)
