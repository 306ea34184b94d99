-- What a closed list of records is worth, and that the findings decide it. Assumes nothing.
use Rattle.std.specs.Prelude.{ℕ, ◌<◌, length}
use Rattle.model.specs.Bad.{Bad}
use Rattle.model.specs.Order.{Nothing}
use Rattle.model.specs.State.{State, start}
use Rattle.model.specs.Steps.{Reaches}
use Rattle.model.specs.System.{WellFormed}
use Rattle.abstraction.specs.Meaning.{Meaning}
use Rattle.closed_sets.specs.Judging.{Applies, judged}
use Rattle.closed_sets.specs.Records.{Claim, record_of, Sound, Represented, Closed}

abbrev pub Means : Claim → Type 0
Means T = Meaning T.width T.code T.removals

abbrev pub SoundAll : Claim → Type 0
SoundAll T = (k : ℕ) → k < length T.records → Sound T (record_of T k)

-- every state that is reached, with queues of any length, is represented and not bad
abbrev pub ClosedHolds : Type 0
ClosedHolds = (T : Claim) → WellFormed T.system → Closed T → (s : State) → Reaches T.system s → Represented T s × (Bad T.system s → ⊥)

-- records in which nothing is found are closed, and in closed records nothing is found
abbrev pub FoundNothing : Type 0
FoundNothing = (T : Claim) → Means T → WellFormed T.system → SoundAll T → Represented T (start T.system) → Nothing (Applies T) (judged T) → Closed T

abbrev pub ClosedNothing : Type 0
ClosedNothing = (T : Claim) → Closed T → Nothing (Applies T) (judged T)
