-- Systems: machines with local states, rules and forbidden patterns. Assumes nothing.
use Rattle.std.specs.Prelude.{ℕ, suc, ◌^◌, ◌<◌, ◌≤◌, List, [], ◌∷◌, length, Some, None, Option, slice_index, slice_index_or}
use Rattle.std.specs.List.{AllByRecursion}
use Rattle.model.specs.declared.queue.Front.{Front}
use Rattle.model.specs.declared.queue.Front.TheVariants.{Any, Empty, Event}
use Rattle.model.specs.declared.rule.Action.{Action}
use Rattle.model.specs.declared.rule.Action.TheVariants.{Local, Take, Send}
use Rattle.model.specs.declared.rule.Rule.{Rule}
use Rattle.model.specs.declared.pattern.Condition.{Condition}

-- events are the numbers below `events`, machines the places of `states`, which holds how many local states each has
pub record System : Type 0 where
  pub events : ℕ
  pub states : List ℕ
  pub rules : List Rule
  pub patterns : List (List Condition)

abbrev pub machines : System → ℕ
machines S = length S.states

abbrev pub states_of : System → ℕ → ℕ
states_of S i = slice_index S.states i

abbrev pub rule_of : System → ℕ → Rule
rule_of S r = slice_index_or S.rules r (record { machine = 0; from = 0; to = 0; action = Local })

abbrev pub pattern_of : System → ℕ → List Condition
pattern_of S p = slice_index_or S.patterns p []

-- the event and the target of an action exist
abbrev pub ActionFits : System → Action → Type 0
ActionFits S Local = Unit {0}
ActionFits S (Take e) = e < S.events
ActionFits S (Send e d) = (e < S.events) × (d < machines S)

-- everything that a rule names exists
pub record RuleFits (S : System) (x : Rule) : Type 0 where
  pub machine : x.machine < machines S
  pub from : x.from < states_of S x.machine
  pub to : x.to < states_of S x.machine
  pub action : ActionFits S x.action

abbrev pub LocalFits : ℕ → Option ℕ → Type 0
LocalFits n None = Unit {0}
LocalFits n (Some l) = l < n

abbrev pub FrontFits : ℕ → Front → Type 0
FrontFits m Any = Unit {0}
FrontFits m Empty = Unit {0}
FrontFits m (Event e) = e < m

-- everything that a condition names exists
pub record ConditionFits (S : System) (c : Condition) : Type 0 where
  pub machine : c.machine < machines S
  pub local : LocalFits (states_of S c.machine) c.local
  pub front : FrontFits S.events c.front
  pub mask : c.mask < 2 ^ S.events

-- the machines of the conditions are at least `low`, and rise strictly
abbrev pub Rise : ℕ → List Condition → Type 0
Rise low [] = Unit {0}
Rise low (c ∷ cs) = (low ≤ c.machine) × Rise (suc c.machine) cs

-- a pattern has a condition, and at most one for a machine
pub record PatternFits (S : System) (p : List Condition) : Type 0 where
  pub some : 1 ≤ length p
  pub fit : AllByRecursion (ConditionFits S) p
  pub rise : Rise 0 p

pub record WellFormed (S : System) : Type 0 where
  pub some_machines : 1 ≤ machines S
  pub few_machines : machines S ≤ 6
  pub some_events : 1 ≤ S.events
  pub few_events : S.events ≤ 8
  pub some_states : (i : ℕ) → i < machines S → 1 ≤ states_of S i
  pub few_states : (i : ℕ) → i < machines S → states_of S i ≤ 32
  pub rules : (r : ℕ) → r < length S.rules → RuleFits S (rule_of S r)
  pub patterns : (p : ℕ) → p < length S.patterns → PatternFits S (pattern_of S p)
