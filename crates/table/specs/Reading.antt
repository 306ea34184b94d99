-- What reading a table answers. Assumes nothing.
use Rattle.std.specs.Prelude.{◌≡◌, ℕ, ◌+◌, ◌<◌, ◌⊎◌, List, length, Some, Ok, Err, Result, IfOk}
use Rattle.std.specs.List.{slice_get}
use Rattle.std.specs.Result.{IfErr}
use Rattle.model.specs.declared.fault.Fault.{Fault}
use Rattle.model.specs.Order.{Order, Nothing, FirstFault, Answered}
use Rattle.model.specs.Laid.{laid, NoneIn, FirstIn}
use Rattle.model.specs.System.{pattern_of}
use Rattle.table.specs.declared.line.PatternLine.{PatternLine}
use Rattle.table.specs.Layout.{pattern_lines_n}
use Rattle.table.specs.SystemOf.{number_of, system_of}
use Rattle.table.specs.Findings.{Finding, Applies, numbers, order}

-- what a search through an order of findings answers
abbrev pub Finds : List ℕ → Order Finding → Result (Unit {0}) Fault → Type 0
Finds bs o r = Answered (Applies bs) (numbers bs) o r

-- the first error among n answers, where A says what may be answered for each
pub record FirstErr (n : ℕ) (A : ℕ → Result (Unit {0}) Fault → Type 0) (r : Result (Unit {0}) Fault) : Type 0 where
  pub none : IfOk r (λ _. (i : ℕ) → i < n → A i (Ok tt))
  pub first : IfErr r (λ f. (i : ℕ) × (i < n) × A i (Err f) × ((j : ℕ) → j < i → A j (Ok tt)))

-- nothing is wrong with the table
abbrev pub Reads : List ℕ → Type 0
Reads bs = Nothing (Applies bs) (order bs)

-- the fault is that of the first thing wrong with the table
abbrev pub Refuses : List ℕ → Fault → Type 0
Refuses bs f = FirstFault (Applies bs) (numbers bs) (order bs) f

-- the same over the order laid out as a list: nothing in it applies, or the fault is that of the first that does
abbrev pub NoneListed : List ℕ → Type 0
NoneListed bs = NoneIn (Applies bs) (laid (order bs))

abbrev pub FirstListed : List ℕ → Fault → Type 0
FirstListed bs f = (g : Finding) × (f ≡ numbers bs g) × FirstIn (Applies bs) (laid (order bs)) g

-- the pattern numbers of the lines start at 0 and grow by at most 1
pub record Numbered (bs : List ℕ) : Type 0 where
  pub first : 0 < pattern_lines_n bs → number_of bs 0 ≡ 0
  pub next : (l : ℕ) → l + 1 < pattern_lines_n bs → (number_of bs (l + 1) ≡ number_of bs l) ⊎ (number_of bs (l + 1) ≡ number_of bs l + 1)

-- a pattern line belongs to a pattern of the system: its number is that of one, where the numbers go as in a table that reads;
-- and its condition is then among the conditions of that pattern
pub record OfPattern (bs : List ℕ) (l : PatternLine) : Type 0 where
  pub number : Numbered bs → l.number < length (system_of bs).patterns
  pub condition : l.number < length (system_of bs).patterns → (k : ℕ) × (slice_get (pattern_of (system_of bs) l.number) k ≡ Some l.condition)
