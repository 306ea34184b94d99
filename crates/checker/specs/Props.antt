-- Facts that have at most one proof, so that a ghost field may hold them. Assumes nothing.
use Rattle.std.specs.Prelude.{◌≡◌, ℕ, ◌<◌, List, [], ◌∷◌, Option, Some, None}
use Rattle.std.specs.Coded.{×_prop, Π_prop, →_prop, Unit-prop, le_prop, Coded-set, coded_ℕ}
use Rattle.std.specs.List.{AllByRecursion-prop}
use Rattle.std.proofs.Common.{arith, inl, inr}
use Rattle.std.proofs.Props.{props}
use Rattle.std.proofs.lemmas.Bool.{cases_lt}
use mathlib.Core.HLevel.{is_prop→PathP}
use Rattle.model.specs.System.{System, WellFormed, ActionFits, LocalFits, FrontFits, ConditionFits, PatternFits, RuleFits, Rise}
use Rattle.model.specs.declared.pattern.Condition.{Condition}
use Rattle.model.specs.declared.queue.Front.{Front}
use Rattle.model.specs.declared.queue.Front.TheVariants.{Any, Empty, Event}
use Rattle.model.specs.declared.rule.Action.{Action}
use Rattle.model.specs.declared.rule.Action.TheVariants.{Local, Take, Send}
use Rattle.model.specs.declared.rule.Rule.{Rule}
use Rattle.checker.specs.Inner.{Enabled}
use Rattle.checker.specs.Plan.{FirstFrom, Planned}
use Rattle.checker.specs.Ready.{Ready}
use Rattle.checker.specs.SetFile.{Before, SetReady}
use Rattle.checker.specs.declared.held.Held.{Held}
use Rattle.checker.specs.declared.plan.Plan.{Plan}

pub action_prop : (S : System) (a : Action) → IsProp (ActionFits S a)
action_prop S Local = Unit-prop
action_prop S (Take e) = le_prop
action_prop S (Send e d) = ×_prop le_prop le_prop

pub rule_prop : (S : System) (x : Rule) → IsProp (RuleFits S x)
rule_prop S x = Prim.hlevel (le_prop, action_prop)

pub local_prop : (n : ℕ) (l : Option ℕ) → IsProp (LocalFits n l)
local_prop n None = Unit-prop
local_prop n (Some l) = le_prop

pub front_prop : (m : ℕ) (f : Front) → IsProp (FrontFits m f)
front_prop m Any = Unit-prop
front_prop m Empty = Unit-prop
front_prop m (Event e) = le_prop

pub condition_prop : (S : System) (c : Condition) → IsProp (ConditionFits S c)
condition_prop S c = Prim.hlevel (le_prop, local_prop, front_prop)

pub rise_prop : (low : ℕ) (cs : List Condition) → IsProp (Rise low cs)
rise_prop low [] = Unit-prop
rise_prop low (c ∷ cs) = ×_prop le_prop (rise_prop _ cs)

pub pattern_prop : (S : System) (cs : List Condition) → IsProp (PatternFits S cs)
pattern_prop S cs =
    let fit = AllByRecursion-prop (ConditionFits S) (condition_prop S) cs in
    Prim.hlevel (le_prop, fit, rise_prop)

pub well_formed_prop : (S : System) → IsProp (WellFormed S)
well_formed_prop S = Prim.hlevel (le_prop, rule_prop, pattern_prop)

pub ready_prop : (bs : List ℕ) → IsProp (Ready bs)
ready_prop bs = Prim.hlevel (le_prop, well_formed_prop)

-- the place where one run of bytes is lower than another is the first at which they differ
pub one_place : (z : ℕ) (f g : ℕ → ℕ) (a b : Before z f g) → a.0 ≡ b.0
one_place z f g a b = elim (cases_lt a.0 b.0) [
  | inl l ↦ let e = b.2 a.0 l in let u = a.3 in absurd (omega (arith, e, u))
  | inr ge ↦ elim (cases_lt b.0 a.0) [
    | inl l ↦ let e = a.2 b.0 l in let u = b.3 in absurd (omega (arith, e, u))
    | inr le ↦ omega (arith, le, ge)
  ]
]

pub before_prop : (z : ℕ) (f g : ℕ → ℕ) → IsProp (Before z f g)
before_prop z f g a b =
    let p = one_place z f g a b in
    λ i. (
      p i,
      is_prop→PathP (λ j. p j < z) (λ j. le_prop) a.1 b.1 i,
      is_prop→PathP (λ j. (t : ℕ) → t < p j → f t ≡ g t) (λ j. Π_prop (λ t. →_prop (Coded-set coded_ℕ (f t) (g t)))) a.2 b.2 i,
      is_prop→PathP (λ j. f (p j) < g (p j)) (λ j. le_prop) a.3 b.3 i,
    )

pub set_ready_prop : (n : ℕ) (bs : List ℕ) → IsProp (SetReady n bs)
set_ready_prop n bs =
    let numbers : IsSet ℕ = Coded-set coded_ℕ in
    Prim.hlevel (le_prop, before_prop, numbers)

pub first_from_prop : (bs : List ℕ) (x a : ℕ) (o : Option ℕ) → IsProp (FirstFrom bs x a o)
first_from_prop bs x a None = Prim.hlevel le_prop
first_from_prop bs x a (Some j) =
    let numbers : IsSet ℕ = Coded-set coded_ℕ in
    Prim.hlevel (le_prop, numbers)

pub planned_prop : (bs : List ℕ) (p : Plan) → IsProp (Planned bs p)
planned_prop bs p = Prim.hlevel (props, le_prop, first_from_prop)

pub enabled_prop : (bs : List ℕ) (h : Held) (r : ℕ) (x : Rule) → IsProp (Enabled bs h r x)
enabled_prop bs h r x = Prim.hlevel (props, le_prop)
