-- What firing makes of the machines that a controller holds. Assumes nothing.
use Rattle.std.specs.Prelude.{ℕ, ◌≤◌, List, length, drop}
use Rattle.model.specs.declared.rule.Action.{Action}
use Rattle.model.specs.declared.rule.Action.TheVariants.{Local, Take, Send}
use Rattle.model.specs.State.{State, queue_at}
use Rattle.model.specs.Steps.{sent}

-- no queue is longer than the capacity
abbrev pub Short : ℕ → State → Type 0
Short cap s = (k : ℕ) → length (queue_at s k) ≤ cap

-- what an action leaves of its machine's queue
abbrev pub left : Action → List ℕ → List ℕ
left Local Q = Q
left (Take e) Q = drop 1 Q
left (Send e d) Q = Q

-- what an action sends
abbrev pub delivered : Action → State → State
delivered Local s = s
delivered (Take e) s = s
delivered (Send e d) s = sent e d s
