-- Laws of systems: what every step and every reached state keeps. Assumes nothing.
use Rattle.std.specs.Prelude.{◌≡◌}
use Rattle.model.specs.declared.rule.Rule.{Rule}
use Rattle.model.specs.System.{System, WellFormed}
use Rattle.model.specs.State.{State, IsState}
use Rattle.model.specs.Steps.{Makes, Reaches}

-- a rule makes at most one state of another
abbrev pub RuleDetermines : Type 0
RuleDetermines = (x : Rule) (s t u : State) → Makes x s t → Makes x s u → t ≡ u

-- in a well-formed system every state that is reached gives each machine a local state that it has, and events that there are
abbrev pub ReachedIsState : Type 0
ReachedIsState = (S : System) → WellFormed S → (s : State) → Reaches S s → IsState S s
