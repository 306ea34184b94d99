-- What can be wrong with the records of a claim, in the order in which it counts. Assumes nothing.
use Rattle.std.specs.Prelude.{◌≡◌, ℕ, length, Some, Result}
use Rattle.std.specs.List.{slice_get}
use Rattle.model.specs.declared.fault.Fault.{Fault}
use Rattle.model.specs.declared.fault.Refusal.TheVariants.{Surprise, PatternMet, StepOutside}
use Rattle.model.specs.declared.rule.Action.{Action}
use Rattle.model.specs.declared.rule.Action.TheVariants.{Local, Take, Send}
use Rattle.model.specs.declared.rule.Rule.{Rule}
use Rattle.model.specs.System.{machines, rule_of, pattern_of}
use Rattle.model.specs.State.{State, queue_at}
use Rattle.model.specs.Steps.{Makes}
use Rattle.model.specs.Bad.{Surprised, Met}
use Rattle.model.specs.Order.{Order, one, ◌then◌, each, Answered}
use Rattle.closed_sets.specs.Records.{Claim, Record, code_in, record_of, Represented, Lets}

-- record k lets machine i be surprised by event e; lets pattern p be met; lets rule r lead outside by its outcome c
pub data Finding : Type 0 where
  surprise : (k i e : ℕ) → Finding
  met : (k p : ℕ) → Finding
  outside : (k r c : ℕ) → Finding

-- a take has an outcome for each removal of the code, in their order; any other action has one
abbrev pub outcomes : Claim → Record → Rule → Action → ℕ
outcomes T r x Local = 1
outcomes T r x (Take e) = length (T.removals T.system.events (code_in r x.machine))
outcomes T r x (Send e d) = 1

-- state t is what outcome c of the action leads to, for machine i
abbrev pub Numbered : Claim → Action → Record → ℕ → State → ℕ → Type 0
Numbered T Local r i t c = c ≡ 0
Numbered T (Take e) r i t c = slice_get (T.removals T.system.events (code_in r i)) c ≡ Some (e, T.code T.system.events (queue_at t i))
Numbered T (Send e d) r i t c = c ≡ 0

-- from state s, the rule leads by outcome c to a state that no record represents
pub record Leaves (T : Claim) (r : Record) (x : Rule) (c : ℕ) (s : State) : Type 0 where
  pub to : State
  pub makes : Makes x s to
  pub numbered : Numbered T x.action r x.machine to c
  pub out : Represented T to → ⊥

abbrev pub Applies : Claim → Finding → Type 0
Applies T (surprise k i e) = Lets T (record_of T k) (λ s. Surprised T.system s i e)
Applies T (met k p) = Lets T (record_of T k) (λ s. Met s (pattern_of T.system p))
Applies T (outside k r c) = Lets T (record_of T k) (Leaves T (record_of T k) (rule_of T.system r) c)

-- the refusal of a finding
abbrev pub numbers : Finding → Fault
numbers (surprise k i e) = record { number = Surprise; a = k; b = i; c = e }
numbers (met k p) = record { number = PatternMet; a = k; b = p; c = 0 }
numbers (outside k r c) = record { number = StepOutside; a = k; b = r; c = c }

-- machine by machine, event by event
abbrev pub surprises : Claim → ℕ → Order Finding
surprises T k = each (machines T.system) (λ i. each T.system.events (λ e. one (surprise k i e)))

abbrev pub patterns : Claim → ℕ → Order Finding
patterns T k = each (length T.system.patterns) (λ p. one (met k p))

-- rule by rule, outcome by outcome
abbrev pub outcomes_of : Claim → ℕ → ℕ → Order Finding
outcomes_of T k r = each (outcomes T (record_of T k) (rule_of T.system r) (rule_of T.system r).action) (λ c. one (outside k r c))

abbrev pub steps : Claim → ℕ → Order Finding
steps T k = each (length T.system.rules) (outcomes_of T k)

abbrev pub of_record : Claim → ℕ → Order Finding
of_record T k = surprises T k then patterns T k then steps T k

-- record by record
abbrev pub judged : Claim → Order Finding
judged T = each (length T.records) (of_record T)

-- nothing of the order applies, or the fault is that of the first that does
abbrev pub Judged : Claim → Order Finding → Result (Unit {0}) Fault → Type 0
Judged T o r = Answered (Applies T) numbers o r
