-- What is promised of the whole, from the bytes of a table and a set to every call of a controller: by the check (`Promised`), by each call
-- (`CapacitySet`, `Keeps`, and `HasTable` to `MovesAll`), and of whole runs (`Ran`, `Rehearsed`). What the program `rehearse` promises of its
-- own run is `FromFiles` in crates/rehearsal. Assumes nothing.
use Rattle.std.specs.Prelude.{◌≡◌, ℕ, min, ◌≤◌, ◌⊎◌, List, length, take, IfOk, IfErr, Ok, Err, Result, MatchResult}
use Rattle.model.specs.declared.fault.Fault.{Fault}
use Rattle.model.specs.declared.fault.Refusal.TheVariants.{Capacity}
use Rattle.model.specs.Order.{Nothing, FirstFault, Answered}
use Rattle.model.specs.System.{System}
use Rattle.model.specs.State.{State, start}
use Rattle.table.specs.Header.{fault_at}
use Rattle.table.specs.Reading.{Reads}
use Rattle.table.specs.SystemOf.{system_of}
use Rattle.closed_sets.specs.Records.{Claim}
use Rattle.checker.specs.declared.pass.Pass.{Pass}
use Rattle.checker.specs.Promise.{Checked, NoOther, Passes, Safe}
use Rattle.checker.specs.Verdict.{Applies, numbers, order}
use Rattle.controller.specs.declared.call.Answer.{Answer}
use Rattle.controller.specs.declared.call.Call.{Call}
use Rattle.controller.specs.declared.call.Call.TheVariants.{Fire}
use Rattle.controller.specs.declared.call.Sight.{Sight}
use Rattle.controller.specs.declared.held.Controller.{Controller}
use Rattle.controller.specs.Exact.{Fires}
use Rattle.controller.specs.Hindrances as hindrances
use Rattle.controller.specs.Reference.{refusal, fired, looked, answer, next, answers_to, after, made, filled}
use Rattle.controller.specs.Runs.{Run, RunsAnswered, RunReaches, RunSafe, RunsSafe}
use Rattle.controller.specs.Views.{system_in, state_in}
-- what two more promises are called: of set_capacity, that a capacity from 1 to 32 is set, and that any other is refused by 12 and the one
-- before stays; and of the calls of a controller that change it, that the table and the capacity stay
pub use Rattle.checker.specs.Promise.{CapacitySet}
pub use Rattle.controller.specs.Views.{Keeps}

-- What the check promises.

-- a fire is accepted exactly when the rule makes a state for which there is room, and goes there; else the state stays
abbrev pub ExactSteps : System → Type 0
ExactSteps S = (cap r : ℕ) (s : State) → Fires S cap r s (next S cap s (Fire r)) (fired r (refusal S cap s r))

-- a fire that is refused is refused for the first of 13 to 17 that applies
abbrev pub FirstRefusals : System → Type 0
FirstRefusals S = (cap r : ℕ) (s : State) → Answered (hindrances.Applies S cap s r) (hindrances.numbers r) hindrances.order (fired r (refusal S cap s r))

-- of a table and a set
pub record Promised (table set : List ℕ) (T : Claim) (x : Result Pass Fault) : Type 0 where
  -- a pass is granted, for these bytes and at capacity 32, or a fault is answered
  pub checked : Checked table set T x
  -- exactly: a pass is granted exactly where the table reads, the set is in good form under it, and it is closed
  pub exactly : MatchResult x (λ _. Passes table set T) (λ _. Passes table set T → ⊥)
  -- first: the fault is that of the first thing wrong, in one order from the first byte to the last removal
  pub first : IfErr x (FirstFault (Applies table set T) (numbers table) (order table set T))
  -- alone: no other fault is that of the first thing wrong, and where a pass is granted nothing of the order is wrong
  pub alone : MatchResult x (λ _. Nothing (Applies table set T) (order table set T)) (NoOther table set T (order table set T))
  -- safe: after a pass every state that is reached, with queues of any length, is represented and not bad
  pub safe : IfOk x (λ _. Safe T)
  -- runs: after a pass no state of any run of the reference controller is bad, whatever the capacity from 1 to 32 and the calls
  pub runs : IfOk x (λ _. RunsSafe T.system)
  -- answers: pass or not, the relation Run gives every list of calls the reference controller's answers, and no others
  pub answers : (cap : ℕ) → RunsAnswered T.system cap
  -- reached: pass or not, every state of every run is reached by the system's own steps
  pub reached : (cap : ℕ) (calls : List Call) → RunReaches T.system cap calls
  -- steps: the reference controller makes exactly the steps of the system, as far as there is room
  pub steps : ExactSteps T.system
  -- refusals: what it refuses, it refuses for the first reason
  pub refusals : FirstRefusals T.system

-- What each call promises, of every controller and every input: c is the controller before the call, d the one after it.

-- load: the table is the pass's, and so is the capacity, up to 32, which no set one is above; the state is the start; of a table that reads
-- the system is the whole one
abbrev pub HasTable : Pass → Controller → Type 0
HasTable p c = c.table ≡ p.table

abbrev pub HasCapacity : Pass → Controller → Type 0
HasCapacity p c = c.capacity ≡ min p.capacity 32

abbrev pub HasGranted : Pass → Controller → Type 0
HasGranted p c = p.capacity ≤ 32 → c.capacity ≡ p.capacity

abbrev pub AtStart : Controller → Type 0
AtStart c = state_in c ≡ start (system_in c)

abbrev pub HasWhole : Pass → Controller → Type 0
HasWhole p c = Reads p.table.bytes.now → system_in c ≡ system_of p.table.bytes.now

-- fire, look, and answer, which makes any call: the answer is the reference controller's
abbrev pub FireAnswered : Controller → ℕ → Result (Unit {0}) Fault → Type 0
FireAnswered c r x = x ≡ fired r (refusal (system_in c) c.capacity (state_in c) r)

abbrev pub LookAnswered : Controller → ℕ → ℕ → Result Sight Fault → Type 0
LookAnswered c i p x = x ≡ looked (system_in c) (state_in c) i p

abbrev pub CallAnswered : Controller → Call → Result Answer Fault → Type 0
CallAnswered c call x = x ≡ answer (system_in c) c.capacity (state_in c) call

-- fire, reset, and answer: the state after the call is the reference controller's; after a reset that is the start, and a look changes nothing
abbrev pub Moves : Controller → Call → Controller → Type 0
Moves c call d = state_in d ≡ next (system_in c) c.capacity (state_in c) call

-- fire, and answer: a refusal leaves the state
abbrev pub RefusalStays : {X : Type 0} → Controller → Result X Fault → Controller → Type 0
RefusalStays c x d = IfErr x (λ _. state_in d ≡ state_in c)

-- fire: a refusal is for the first of 13 to 17 that applies
abbrev pub FirstReason : Controller → ℕ → Result (Unit {0}) Fault → Type 0
FirstReason c r x = Answered (hindrances.Applies (system_in c) c.capacity (state_in c) r) (hindrances.numbers r) hindrances.order x

-- fire: it is accepted exactly when the rule makes a state for which there is room, and goes there
abbrev pub ExactStep : Controller → ℕ → Result (Unit {0}) Fault → Controller → Type 0
ExactStep c r x d = Fires (system_in c) c.capacity r (state_in c) (state_in d) x

-- answer_all: as many calls are made as there are places for answers; answers and state are the reference controller's
abbrev pub AllCounted : List Call → List (Result Answer Fault) → ℕ → Type 0
AllCounted calls places n = n ≡ length (made calls places)

abbrev pub AllAnswered : Controller → List Call → List (Result Answer Fault) → List (Result Answer Fault) → Type 0
AllAnswered c calls places answers = answers ≡ filled (answers_to (system_in c) c.capacity (state_in c) (made calls places)) places

abbrev pub MovesAll : Controller → List Call → List (Result Answer Fault) → Controller → Type 0
MovesAll c calls places d = state_in d ≡ after (system_in c) c.capacity (state_in c) (made calls places)

-- What whole runs promise.

-- what a loaded controller promises of the calls for whose answers there are places: every answer is the reference controller's and
-- nothing is written beyond them, it stands in the reference's state t, the answers and t are related to the calls by Run, and every
-- state on the way is reached by the system's own steps
pub record Ran (S : System) (cap : ℕ) (calls : List Call) (places answers : List (Result Answer Fault)) (t : State) : Type 0 where
  pub answered : answers ≡ filled (answers_to S cap (start S) (made calls places)) places
  pub stands : t ≡ after S cap (start S) (made calls places)
  pub related : Run S cap (start S) (made calls places) (take (length (made calls places)) answers) t
  pub reached : RunReaches S cap (made calls places)

-- the same from the bytes on, where the set passes and the capacity is from 1 to 32: then no state on the way is bad
pub record RanSafely (table set : List ℕ) (T : Claim) (cap : ℕ) (calls : List Call) (places answers : List (Result Answer Fault)) (n : ℕ) : Type 0 where
  pub passes : Passes table set T
  pub nothing : Nothing (Applies table set T) (order table set T)
  pub some : 1 ≤ cap
  pub few : cap ≤ 32
  pub count : n ≡ length (made calls places)
  pub answered : answers ≡ filled (answers_to T.system cap (start T.system) (made calls places)) places
  pub related : (t : State) × Run T.system cap (start T.system) (made calls places) (take n answers) t
  pub safe : RunSafe T.system cap (made calls places)

-- else the fault of the check, or of the capacity, and nothing is written
abbrev pub Rehearsed : List ℕ → List ℕ → Claim → ℕ → List Call → List (Result Answer Fault) → List (Result Answer Fault) → Result ℕ Fault → Type 0
Rehearsed table set T cap calls places answers (Ok n) = RanSafely table set T cap calls places answers n
Rehearsed table set T cap calls places answers (Err f) =
    (answers ≡ places)
    × (Checked table set T (Err f) ⊎ (Passes table set T × (1 ≤ cap → cap ≤ 32 → ⊥) × (f ≡ fault_at Capacity cap)))
