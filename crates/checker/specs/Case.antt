-- What a case is judged by. Assumes nothing.
use Rattle.std.specs.Prelude.{ℕ, ◌<◌, List, Result}
use Rattle.abstraction.specs.declared.QueueAbstraction as queue_abstraction
use Rattle.closed_sets.specs.Judging as judging
use Rattle.closed_sets.specs.Records.{Claim, Sound, record_of}
use Rattle.model.specs.Order.{Order, Answered}
use Rattle.model.specs.declared.fault.Fault.{Fault}
use Rattle.model.specs.declared.fault.Refusal.{Refusal}
use Rattle.table.specs.Layout.{machines_n}
use Rattle.checker.specs.Inner.{Judging}
use Rattle.checker.specs.SetFile.{claim_of, records_n}
use Rattle.checker.specs.Verdict.{Finding, Applies, numbers}
use Rattle.checker.specs.declared.case.Case.{Case}
use Rattle.checker.specs.declared.case.Judgement.{Judgement}

-- what the set of a case claims of the table's system, under the abstraction
abbrev pub claim : {A : Type 0} → queue_abstraction.Ghosts A → Case A → Claim
claim q c = claim_of c.table.view.bytes.now c.set.bytes.now (q.bits c.abstraction.now) (q.code c.abstraction.now) (q.removals c.abstraction.now)

-- what is answered of a case: the first that applies of what an order lists, or that nothing does
abbrev pub FindsFirst : {A : Type 0} → queue_abstraction.Ghosts A → Case A → Order Finding → Result (Unit {0}) Fault → Type 0
FindsFirst q c order r = Answered (Applies c.table.view.bytes.now c.set.bytes.now (claim q c)) (numbers c.table.view.bytes.now) order r

-- every record of the set is sound
abbrev pub AllSound : {A : Type 0} → queue_abstraction.Ghosts A → Case A → Type 0
AllSound q c = (k : ℕ) → k < records_n c.set.bytes.now → Sound (claim q c) (record_of (claim q c) k)

-- what the set of a record under judgement claims
abbrev pub claim_at : {A : Type 0} → queue_abstraction.Ghosts A → Judgement A → Claim
claim_at q j = claim q j.judge.now.case.now

-- the bytes of its table
abbrev pub table_at : {A : Type 0} → Judgement A → List ℕ
table_at j = j.judge.now.case.now.table.view.bytes.now

-- the bytes of its set
abbrev pub set_at : {A : Type 0} → Judgement A → List ℕ
set_at j = j.judge.now.case.now.set.bytes.now

-- what is held is record k, which is sound
abbrev pub IsSound : {A : Type 0} → queue_abstraction.Ghosts A → Judgement A → Type 0
IsSound q j = Judging (claim_at q j) (machines_n (table_at j)) j.k j.held

-- what is answered of the record: the first finding of an order, or that there is none
abbrev pub Finds : {A : Type 0} → queue_abstraction.Ghosts A → Judgement A → Order judging.Finding → Result (Unit {0}) Fault → Type 0
Finds q j order r = judging.Judged (claim_at q j) order r

-- a fault of record k
abbrev pub fault_of : Refusal → ℕ → ℕ → ℕ → Fault
fault_of number k b c = record { number = number; a = k; b = b; c = c }
