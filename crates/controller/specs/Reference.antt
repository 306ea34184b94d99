-- The reference controller: it is fed a system, a capacity and the calls in their order, and holds a state of the model. Assumes nothing.
use Rattle.std.specs.Prelude.{ℕ, cond, List, [], ◌∷◌, ◌++◌, length, take, drop, Some, None, Ok, Err, Option, Result, ◌==◌, nat_lt}
use Rattle.std.specs.List.{slice_get}
use Rattle.model.specs.declared.fault.Fault.{Fault}
use Rattle.model.specs.declared.fault.Refusal.{Refusal}
use Rattle.model.specs.declared.fault.Refusal.TheVariants.{NoRule, OtherState, QueueEmpty, OtherFront, QueueFull, NoMachine}
use Rattle.model.specs.declared.rule.Action.{Action}
use Rattle.model.specs.declared.rule.Action.TheVariants.{Local, Take, Send}
use Rattle.model.specs.declared.rule.Rule.{Rule}
use Rattle.model.specs.System.{System, machines, rule_of}
use Rattle.model.specs.State.{State, local_at, queue_at, start}
use Rattle.model.specs.Steps.{moved, sent}
use Rattle.table.specs.Header.{fault_at}
use Rattle.controller.specs.declared.call.Answer.{Answer}
use Rattle.controller.specs.declared.call.Answer.TheVariants.{Accepted, Reset as WasReset, Seen}
use Rattle.controller.specs.declared.call.Call.{Call}
use Rattle.controller.specs.declared.call.Call.TheVariants.{Fire, Reset, Look}
use Rattle.controller.specs.declared.call.Sight.{Sight}

-- a take of event e: the queue is empty, or another event is in front
abbrev pub taking : ℕ → List ℕ → Option Refusal
taking e [] = Some QueueEmpty
taking e (f ∷ Q) = cond (f == e) None (Some OtherFront)

-- an action of machine i; for a send, the target has as many waiting as the capacity
abbrev pub acting : ℕ → State → ℕ → Action → Option Refusal
acting cap s i Local = None
acting cap s i (Take e) = taking e (queue_at s i)
acting cap s i (Send e d) = cond (nat_lt (length (queue_at s d)) cap) None (Some QueueFull)

-- why a rule cannot be fired, if there is a reason: its machine is in another local state, or its action cannot be done
abbrev pub blocked : ℕ → State → Rule → Option Refusal
blocked cap s x = cond (local_at s x.machine == x.from) (acting cap s x.machine x.action) (Some OtherState)

-- the first refusal of rule number r that applies, if one does
abbrev pub refusal : System → ℕ → State → ℕ → Option Refusal
refusal S cap s r = cond (nat_lt r (length S.rules)) (blocked cap s (rule_of S r)) (Some NoRule)

-- the state that a rule makes, by its action
abbrev pub acted : Action → Rule → State → State
acted Local x s = moved x (queue_at s x.machine) s
acted (Take e) x s = moved x (drop 1 (queue_at s x.machine)) s
acted (Send e d) x s = sent e d (moved x (queue_at s x.machine) s)

-- the state stays if there is a refusal
abbrev pub unless : Option Refusal → State → State → State
unless None s t = t
unless (Some n) s t = s

abbrev pub outcome : Option Refusal → Result (Unit {0}) Refusal
outcome None = Ok tt
outcome (Some n) = Err n

-- a refusal has the rule number for its A
abbrev pub fired : ℕ → Option Refusal → Result (Unit {0}) Fault
fired r None = Ok tt
fired r (Some n) = Err (fault_at n r)

-- what is seen of machine i: its local state, how many events wait, and the one at place p, if there is one
abbrev pub sight : State → ℕ → ℕ → Sight
sight s i p = record { local = local_at s i; waiting = length (queue_at s i); event = slice_get (queue_at s i) p }

-- the same if there is such a machine
abbrev pub seen_of : State → ℕ → ℕ → Option Sight
seen_of s i p = cond (nat_lt i (length s)) (Some (sight s i p)) None

abbrev pub looked : System → State → ℕ → ℕ → Result Sight Fault
looked S s i p = cond (nat_lt i (machines S)) (Ok (sight s i p)) (Err (fault_at NoMachine i))

abbrev pub to_fire : Result (Unit {0}) Fault → Result Answer Fault
to_fire (Ok u) = Ok Accepted
to_fire (Err f) = Err f

abbrev pub to_look : Result Sight Fault → Result Answer Fault
to_look (Ok l) = Ok (Seen l)
to_look (Err f) = Err f

-- the answer to a call in state s
abbrev pub answer : System → ℕ → State → Call → Result Answer Fault
answer S cap s (Fire r) = to_fire (fired r (refusal S cap s r))
answer S cap s Reset = Ok WasReset
answer S cap s (Look i p) = to_look (looked S s i p)

-- the state after a call
abbrev pub next : System → ℕ → State → Call → State
next S cap s (Fire r) = unless (refusal S cap s r) s (acted (rule_of S r).action (rule_of S r) s)
next S cap s Reset = start S
next S cap s (Look i p) = s

-- the answers to calls in their order, and the state after them
abbrev pub answers_to : System → ℕ → State → List Call → List (Result Answer Fault)
answers_to S cap s [] = []
answers_to S cap s (c ∷ cs) = answer S cap s c ∷ answers_to S cap (next S cap s c) cs

abbrev pub after : System → ℕ → State → List Call → State
after S cap s [] = s
after S cap s (c ∷ cs) = after S cap (next S cap s c) cs

-- the states before the first call and after each one
abbrev pub states : System → ℕ → State → List Call → List State
states S cap s [] = s ∷ []
states S cap s (c ∷ cs) = s ∷ states S cap (next S cap s c) cs

-- the calls for whose answers there are places, and the places with answers from the first on
abbrev pub made : List Call → List (Result Answer Fault) → List Call
made calls places = take (length places) calls

abbrev pub filled : List (Result Answer Fault) → List (Result Answer Fault) → List (Result Answer Fault)
filled answers places = answers ++ drop (length answers) places
