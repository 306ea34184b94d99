-- Steps of a system, and the states that it reaches. Assumes nothing.
use Rattle.std.specs.Prelude.{◌≡◌, ℕ, ◌<◌, List, [], ◌∷◌, ◌++◌, length, slice_set}
use Rattle.model.specs.declared.rule.Action.{Action}
use Rattle.model.specs.declared.rule.Action.TheVariants.{Local, Take, Send}
use Rattle.model.specs.declared.rule.Rule.{Rule}
use Rattle.model.specs.System.{System, rule_of}
use Rattle.model.specs.State.{State, local_at, queue_at, start}

-- the machine of the rule is in its new local state, with queue Q
abbrev pub moved : Rule → List ℕ → State → State
moved x Q s = slice_set s x.machine (x.to, Q)

-- an event more at the back of the target's queue
abbrev pub sent : ℕ → ℕ → State → State
sent e d s = slice_set s d (local_at s d, queue_at s d ++ (e ∷ []))

-- a local move keeps the queues, a take removes the front event, a send adds its event at the target's back
abbrev pub Acts : Action → Rule → State → State → Type 0
Acts Local x s t = t ≡ moved x (queue_at s x.machine) s
Acts (Take e) x s t = (Q : List ℕ) × (queue_at s x.machine ≡ e ∷ Q) × (t ≡ moved x Q s)
Acts (Send e d) x s t = t ≡ sent e d (moved x (queue_at s x.machine) s)

-- the rule makes t of s
abbrev pub Makes : Rule → State → State → Type 0
Makes x s t = (local_at s x.machine ≡ x.from) × Acts x.action x s t

-- some rule of the system makes t of s
abbrev pub Step : System → State → State → Type 0
Step S s t = (r : ℕ) × (r < length S.rules) × Makes (rule_of S r) s t

-- some list of steps, even none, makes the state of the start
pub data Reaches (S : System) : State → Type 0 where
  begin : Reaches S (start S)
  onward : {s t : State} → Reaches S s → Step S s t → Reaches S t
