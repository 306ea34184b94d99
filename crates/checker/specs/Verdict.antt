-- What can be wrong with a table and a set, in one order from the first byte to the last removal. Assumes nothing.
use Rattle.std.specs.Prelude.{◌≡◌, ℕ, ◌+◌, ◌-◌, ◌*◌, ◌<◌, List, [], ◌∷◌, length}
use Rattle.model.specs.declared.fault.Fault.{Fault}
use Rattle.model.specs.declared.fault.Refusal.TheVariants.{SetLength, SetHeader, RecordParts, RecordOrder, StartAbsent}
use Rattle.model.specs.State.{start}
use Rattle.model.specs.Order.{Order, one, ◌then◌, each, under}
use Rattle.table.specs.Header.{OutOfBounds, fault_at, fields}
use Rattle.table.specs.Layout.{machines_n, events_n}
use Rattle.table.specs.Findings as reading
use Rattle.closed_sets.specs.Records.{Claim, Sound, Represented, record_of}
use Rattle.closed_sets.specs.Judging as judging
use Rattle.checker.specs.SetFile.{records_n, record_byte, Before}

-- what can be wrong with the header of a set
pub data HeaderFinding : Type 0 where
  short : HeaderFinding
  field : ℕ → HeaderFinding
  wrong_length : HeaderFinding

-- the least and the greatest value of each set header field, from the first: edition, kind, kept, machines and events (the table's),
-- records, offset of the records, and 0
abbrev pub bounds : List ℕ → List (ℕ × ℕ)
bounds table = (1, 1) ∷ (0, 2) ∷ (0, 2) ∷ (machines_n table, machines_n table) ∷ (events_n table, events_n table) ∷ (0, 65535) ∷ (16, 16) ∷ (0, 0) ∷ []

abbrev pub HeaderApplies : List ℕ → List ℕ → HeaderFinding → Type 0
HeaderApplies table set short = length set < 16
HeaderApplies table set (field i) = OutOfBounds set (bounds table) i
HeaderApplies table set wrong_length = length set ≡ 16 + 9 * machines_n table * records_n set → ⊥

abbrev pub header_numbers : HeaderFinding → Fault
header_numbers short = fault_at SetLength 0
header_numbers (field i) = fault_at SetHeader (2 * i)
header_numbers wrong_length = fault_at SetLength 0

-- the header's fields, then the length
abbrev pub header_order : Order HeaderFinding
header_order = one short then under field fields then one wrong_length

-- what can be wrong with a table and a set
pub data Finding : Type 0 where
  in_table : reading.Finding → Finding
  in_header : HeaderFinding → Finding
  record_parts : ℕ → Finding
  record_order : ℕ → Finding
  start_absent : Finding
  in_record : judging.Finding → Finding

-- record k does not stand above the one before, compared as byte strings
abbrev pub NotAbove : ℕ → List ℕ → ℕ → Type 0
NotAbove n bs k = (0 < k) × (Before (9 * n) (record_byte n bs (k - 1)) (record_byte n bs k) → ⊥)

-- when a finding is true of the table, the set and what it claims
abbrev pub Applies : List ℕ → List ℕ → Claim → Finding → Type 0
Applies table set T (in_table f) = reading.Applies table f
Applies table set T (in_header f) = HeaderApplies table set f
Applies table set T (record_parts k) = Sound T (record_of T k) → ⊥
Applies table set T (record_order k) = NotAbove (machines_n table) set k
Applies table set T start_absent = Represented T (start T.system) → ⊥
Applies table set T (in_record f) = judging.Applies T f

-- the refusal of a finding: its number and its values
abbrev pub numbers : List ℕ → Finding → Fault
numbers table (in_table f) = reading.numbers table f
numbers table (in_header f) = header_numbers f
numbers table (record_parts k) = fault_at RecordParts k
numbers table (record_order k) = fault_at RecordOrder k
numbers table start_absent = fault_at StartAbsent 0
numbers table (in_record f) = judging.numbers f

abbrev pub form_of : ℕ → Order Finding
form_of k = one (record_parts k) then one (record_order k)

-- the header, then record by record
abbrev pub form_order : List ℕ → Order Finding
form_order set = under in_header header_order then each (records_n set) form_of

-- the start, then what the records let happen
abbrev pub closed_order : Claim → Order Finding
closed_order T = one start_absent then under in_record (judging.judged T)

abbrev pub set_order : List ℕ → Claim → Order Finding
set_order set T = form_order set then closed_order T

abbrev pub table_order : List ℕ → Order Finding
table_order table = under in_table (reading.order table)

-- from the first byte of the table to the last removal of the last record
abbrev pub order : List ℕ → List ℕ → Claim → Order Finding
order table set T = table_order table then set_order set T
