-- Bad states: a machine is surprised, or a forbidden pattern is met. Assumes nothing.
use Rattle.std.specs.Prelude.{◌≡◌, ℕ, ◌<◌, ◌⊎◌, List, ◌∷◌, length, Some, None, Option}
use Rattle.std.specs.List.{AllByRecursion}
use Rattle.model.specs.declared.rule.Action.TheVariants.{Take}
use Rattle.model.specs.declared.rule.Rule.{Rule}
use Rattle.model.specs.declared.pattern.Condition.{Condition}
use Rattle.model.specs.Queue.{Begins, Covers}
use Rattle.model.specs.System.{System, machines, rule_of, pattern_of}
use Rattle.model.specs.State.{State, local_at, queue_at}
use Rattle.model.specs.Steps.{Reaches}

-- by rule x machine i takes event e in local state l
abbrev pub Takes : Rule → ℕ → ℕ → ℕ → Type 0
Takes x i l e = (x.machine ≡ i) × (x.from ≡ l) × (x.action ≡ Take e)

-- machine i has no rule to take event e in local state l
abbrev pub NoTake : System → ℕ → ℕ → ℕ → Type 0
NoTake S i l e = (r : ℕ) → r < length S.rules → Takes (rule_of S r) i l e → ⊥

-- event e is in front of machine i's queue, and its local state has no take rule for it
pub record Surprised (S : System) (s : State) (i e : ℕ) : Type 0 where
  pub machine : i < machines S
  pub rest : List ℕ
  pub front : queue_at s i ≡ e ∷ rest
  pub no_take : NoTake S i (local_at s i) e

abbrev pub LocalIs : Option ℕ → ℕ → Type 0
LocalIs None l = Unit {0}
LocalIs (Some k) l = l ≡ k

-- the machine's local state, front and waiting events are as the condition asks
abbrev pub Holds : State → Condition → Type 0
Holds s c =
    LocalIs c.local (local_at s c.machine)
    × Begins c.front (queue_at s c.machine)
    × Covers c.mask (queue_at s c.machine)

-- a pattern is met when all its conditions hold
abbrev pub Met : State → List Condition → Type 0
Met s p = AllByRecursion (Holds s) p

abbrev pub Bad : System → State → Type 0
Bad S s =
    ((i : ℕ) × (e : ℕ) × Surprised S s i e)
    ⊎ ((p : ℕ) × (p < length S.patterns) × Met s (pattern_of S p))

-- a bad state is reached
abbrev pub GoesWrong : System → Type 0
GoesWrong S = (s : State) × Reaches S s × Bad S s
