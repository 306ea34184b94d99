-- States: each machine's local state and its queue. Assumes nothing.
use Rattle.std.specs.Prelude.{◌≡◌, ℕ, ◌<◌, List, [], length, replicate, slice_index_or}
use Rattle.model.specs.Queue.{Over}
use Rattle.model.specs.System.{System, machines, states_of}

-- by machine: its local state, and the events that wait, front first, as many as may be
abbrev pub State : Type 0
State = List (ℕ × List ℕ)

abbrev pub local_at : State → ℕ → ℕ
local_at s i = (slice_index_or s i (0, [])).0

abbrev pub queue_at : State → ℕ → List ℕ
queue_at s i = (slice_index_or s i (0, [])).1

-- each machine in local state 0, with an empty queue
abbrev pub start : System → State
start S = replicate (machines S) (0, [])

-- an entry for each machine, with a local state that it has and events that there are
pub record IsState (S : System) (s : State) : Type 0 where
  pub entries : length s ≡ machines S
  pub locals : (i : ℕ) → i < machines S → local_at s i < states_of S i
  pub queues : (i : ℕ) → i < machines S → Over S.events (queue_at s i)
