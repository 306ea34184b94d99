-- Whole runs of a controller, as a relation, and the laws of their states. Assumes nothing.
use Rattle.std.specs.Prelude.{◌≡◌, ℕ, ◌<◌, ◌≤◌, List, [], ◌∷◌, length, Ok, Err, Result}
use Rattle.std.specs.List.{slice_get, AllByRecursion}
use Rattle.model.specs.declared.fault.Fault.{Fault}
use Rattle.model.specs.declared.fault.Refusal.TheVariants.{NoMachine}
use Rattle.model.specs.Order.{FirstFault}
use Rattle.model.specs.System.{System, machines}
use Rattle.model.specs.State.{State, start, local_at, queue_at}
use Rattle.model.specs.Steps.{Reaches}
use Rattle.model.specs.Bad.{Bad}
use Rattle.table.specs.Header.{fault_at}
use Rattle.controller.specs.Exact.{May}
use Rattle.controller.specs.Hindrances.{Applies, numbers, order}
use Rattle.controller.specs.Reference.{answers_to, after, states}
use Rattle.controller.specs.declared.call.Answer.{Answer}
use Rattle.controller.specs.declared.call.Answer.TheVariants.{Accepted, Reset as WasReset, Seen}
use Rattle.controller.specs.declared.call.Call.{Call}
use Rattle.controller.specs.declared.call.Call.TheVariants.{Fire, Reset, Look}
use Rattle.controller.specs.declared.call.Sight.{Sight}

-- what is seen of machine i and place p of its queue
pub record Sees (s : State) (i p : ℕ) (l : Sight) : Type 0 where
  pub local : l.local ≡ local_at s i
  pub waiting : l.waiting ≡ length (queue_at s i)
  pub event : l.event ≡ slice_get (queue_at s i) p

-- from state s the calls have these answers and lead to state u: an accepted fire is a step for which there is room, a refused one has the
-- first reason that applies, a reset goes to the start, and a look sees the machine or there is none
pub data Run (S : System) (cap : ℕ) : State → List Call → List (Result Answer Fault) → State → Type 0 where
  done : {s : State} → Run S cap s [] [] s
  steps : {s t u : State} {r : ℕ} {cs : List Call} {ws : List (Result Answer Fault)} → May S cap r s t → Run S cap t cs ws u → Run S cap s (Fire r ∷ cs) (Ok Accepted ∷ ws) u
  stays : {s u : State} {r : ℕ} {f : Fault} {cs : List Call} {ws : List (Result Answer Fault)} → FirstFault (Applies S cap s r) (numbers r) order f → Run S cap s cs ws u → Run S cap s (Fire r ∷ cs) (Err f ∷ ws) u
  restarts : {s u : State} {cs : List Call} {ws : List (Result Answer Fault)} → Run S cap (start S) cs ws u → Run S cap s (Reset ∷ cs) (Ok WasReset ∷ ws) u
  sees : {s u : State} {i p : ℕ} {l : Sight} {cs : List Call} {ws : List (Result Answer Fault)} → i < machines S → Sees s i p l → Run S cap s cs ws u → Run S cap s (Look i p ∷ cs) (Ok (Seen l) ∷ ws) u
  lacks : {s u : State} {i p : ℕ} {cs : List Call} {ws : List (Result Answer Fault)} → machines S ≤ i → Run S cap s cs ws u → Run S cap s (Look i p ∷ cs) (Err (fault_at NoMachine i) ∷ ws) u

-- every list of calls has a run from the start: the reference controller's, and no other
pub record RunsAnswered (S : System) (cap : ℕ) : Type 0 where
  pub some : (calls : List Call) → Run S cap (start S) calls (answers_to S cap (start S) calls) (after S cap (start S) calls)
  pub only : (calls : List Call) (ws : List (Result Answer Fault)) (u : State) → Run S cap (start S) calls ws u → (ws ≡ answers_to S cap (start S) calls) × (u ≡ after S cap (start S) calls)

-- before the first call and after each one the state is one that the system reaches by its own steps
abbrev pub RunReaches : System → ℕ → List Call → Type 0
RunReaches S cap calls = AllByRecursion (Reaches S) (states S cap (start S) calls)

-- before the first call and after each one no machine is surprised and no forbidden pattern is met
abbrev pub RunSafe : System → ℕ → List Call → Type 0
RunSafe S cap calls = AllByRecursion (λ (s : State). Bad S s → ⊥) (states S cap (start S) calls)

-- the same of every capacity from 1 to 32 and every list of calls, some turned down, some repeated, in any number and order
abbrev pub RunsSafe : System → Type 0
RunsSafe S = (cap : ℕ) (calls : List Call) → 1 ≤ cap → cap ≤ 32 → RunSafe S cap calls
