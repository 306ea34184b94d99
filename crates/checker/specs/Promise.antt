-- What the check and its pass promise. Assumes nothing.
use Rattle.std.specs.Prelude.{◌≡◌, ℕ, ◌≤◌, List, Ok, Err, Result, MatchResult}
use Rattle.model.specs.declared.fault.Fault.{Fault}
use Rattle.model.specs.declared.fault.Refusal.TheVariants.{Capacity}
use Rattle.model.specs.State.{State}
use Rattle.model.specs.Steps.{Reaches}
use Rattle.model.specs.Bad.{GoesWrong}
use Rattle.model.specs.Order.{Order, Nothing, FirstFault, ◌then◌}
use Rattle.table.specs.Header.{fault_at}
use Rattle.table.specs.Reading.{Reads}
use Rattle.closed_sets.specs.Records.{Claim, Closed, Represented}
use Rattle.checker.specs.Verdict.{Finding, Applies, numbers, order, table_order, form_order}
use Rattle.checker.specs.declared.pass.Pass.{Pass}
use Rattle.checker.specs.declared.state_set.StateSet.{StateSet}

-- nothing is wrong with the header, the length, the records or their order
abbrev pub GoodForm : List ℕ → List ℕ → Claim → Type 0
GoodForm table set T = Nothing (Applies table set T) (form_order set)

-- the table reads, the set is in good form under it, and it is closed: it represents the start, and every state that it
-- represents is not bad and steps only to states that it represents
pub record Passes (table set : List ℕ) (T : Claim) : Type 0 where
  pub reads : Reads table
  pub form : GoodForm table set T
  pub closed : Closed T

-- every state that is reached, with queues of any length, is represented and not bad: the system does not go wrong
pub record Safe (T : Claim) : Type 0 where
  pub covers : (s : State) → Reaches T.system s → Represented T s
  pub never : GoesWrong T.system → ⊥

-- no fault but f is that of the first thing wrong in an order
abbrev pub NoOther : List ℕ → List ℕ → Claim → Order Finding → Fault → Type 0
NoOther table set T o f = (g : Fault) → FirstFault (Applies table set T) (numbers table) o g → g ≡ f

-- a pass exactly where the set is as it should be, then no reached state is bad and nothing of the order applies;
-- else the fault of the first thing wrong in the order, and no other fault is that
abbrev pub Checked : List ℕ → List ℕ → Claim → Result Pass Fault → Type 0
Checked table set T (Ok p) = (p.table.bytes.now ≡ table) × (p.capacity ≡ 32) × Passes table set T × Safe T × Nothing (Applies table set T) (order table set T)
Checked table set T (Err f) = (Passes table set T → ⊥) × FirstFault (Applies table set T) (numbers table) (order table set T) f × NoOther table set T (order table set T) f

-- a view of the set exactly where the table reads and the set is in good form, and then nothing of the order up to there applies;
-- else the fault of the first thing wrong in it, and no other fault is that
abbrev pub SetRead : List ℕ → List ℕ → Claim → Result StateSet Fault → Type 0
SetRead table set T (Ok v) = (v.bytes.now ≡ set) × Reads table × GoodForm table set T × Nothing (Applies table set T) (table_order table then form_order set)
SetRead table set T (Err f) = (Reads table → GoodForm table set T → ⊥) × FirstFault (Applies table set T) (numbers table) (table_order table then form_order set) f × NoOther table set T (table_order table then form_order set) f

-- pass p, of which a capacity was asked, is q then: a capacity from 1 to 32 is set; any other is refused by 12 with that number, and the one
-- before stays
abbrev pub CapacitySet : Pass → ℕ → Result (Unit {0}) Fault → Pass → Type 0
CapacitySet p n x q =
    MatchResult x (λ _. (1 ≤ n) × (n ≤ 32) × (q.capacity ≡ n)) (λ f. (1 ≤ n → n ≤ 32 → ⊥) × (f ≡ fault_at Capacity n) × (q.capacity ≡ p.capacity))
