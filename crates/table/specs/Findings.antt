-- What can be wrong with a table file, and the order in which it counts. Assumes nothing.
use Rattle.std.specs.Prelude.{◌≡◌, ℕ, ◌+◌, ◌-◌, ◌*◌, ◌^◌, ◌<◌, ◌≤◌, ◌⊎◌, List, [], ◌∷◌, length}
use Rattle.model.specs.declared.fault.Fault.{Fault}
use Rattle.model.specs.declared.fault.Refusal.TheVariants.{TableLength, TableHeader, TableLine}
use Rattle.model.specs.Order.{Order, one, ◌then◌, each, under}
use Rattle.table.specs.Bytes.{byte_at}
use Rattle.table.specs.Header.{OutOfBounds, fault_at, fields}
use Rattle.table.specs.Layout.{machines_n, events_n, rules_n, pattern_lines_n, rules_at, patterns_at, end_at, machine_offset, rule_offset, pattern_offset}

-- the least and the greatest value of each header field, from the first: edition, machines, events, rules, pattern lines,
-- and the offsets of the machine lines, the rules and the pattern lines
abbrev pub bounds : List ℕ → List (ℕ × ℕ)
bounds bs = (1, 1) ∷ (1, 6) ∷ (1, 8) ∷ (0, 256) ∷ (0, 64) ∷ (16, 16) ∷ (rules_at bs, rules_at bs) ∷ (patterns_at bs, patterns_at bs) ∷ []

-- a machine line at offset o: the number of local states, then 0
abbrev pub GoodMachineAt : List ℕ → ℕ → Type 0
GoodMachineAt bs o = (1 ≤ byte_at bs o) × (byte_at bs o ≤ 32) × (byte_at bs (o + 1) ≡ 0)

abbrev pub GoodMachine : List ℕ → ℕ → Type 0
GoodMachine bs i = GoodMachineAt bs (machine_offset i)

-- the number of local states that the line of a machine gives
abbrev pub states_at : List ℕ → ℕ → ℕ
states_at bs i = byte_at bs (machine_offset i)

-- the kind, event and target of a rule: what the kind does not use is 0
abbrev pub GoodAction : List ℕ → ℕ → ℕ → ℕ → Type 0
GoodAction bs kind event target =
    ((kind ≡ 0) × (event ≡ 0) × (target ≡ 0))
    ⊎ (((kind ≡ 1) × (event < events_n bs) × (target ≡ 0))
    ⊎ ((kind ≡ 2) × (event < events_n bs) × (target < machines_n bs)))

-- a rule at offset o: its machine, both its local states and what its action names exist
abbrev pub GoodRuleAt : List ℕ → ℕ → Type 0
GoodRuleAt bs o =
    (byte_at bs (o + 1) < machines_n bs)
    × (byte_at bs (o + 2) < states_at bs (byte_at bs (o + 1)))
    × (byte_at bs (o + 3) < states_at bs (byte_at bs (o + 1)))
    × GoodAction bs (byte_at bs o) (byte_at bs (o + 4)) (byte_at bs (o + 5))

abbrev pub GoodRule : List ℕ → ℕ → Type 0
GoodRule bs r = GoodRuleAt bs (rule_offset bs r)

-- the first pattern line has number 0; each other repeats the number of the line before, for a higher machine, or adds 1
abbrev pub Follows : List ℕ → ℕ → ℕ → Type 0
Follows bs l o =
    ((l ≡ 0) × (byte_at bs o ≡ 0))
    ⊎ (((0 < l) × (byte_at bs o ≡ byte_at bs (o - 6)) × (byte_at bs (o - 5) < byte_at bs (o + 1)))
    ⊎ ((0 < l) × (byte_at bs o ≡ byte_at bs (o - 6) + 1)))

-- everything that the condition at offset o names exists, and its mask has no bit from the number of events up
abbrev pub GoodConditionAt : List ℕ → ℕ → Type 0
GoodConditionAt bs o =
    (byte_at bs (o + 1) < machines_n bs)
    × ((byte_at bs (o + 2) < states_at bs (byte_at bs (o + 1))) ⊎ (byte_at bs (o + 2) ≡ 255))
    × ((byte_at bs (o + 3) < events_n bs) ⊎ ((byte_at bs (o + 3) ≡ 254) ⊎ (byte_at bs (o + 3) ≡ 255)))
    × (byte_at bs (o + 4) < 2 ^ events_n bs)

-- pattern line l, at offset o; its last byte is 0
abbrev pub GoodPatternAt : List ℕ → ℕ → ℕ → Type 0
GoodPatternAt bs l o = Follows bs l o × GoodConditionAt bs o × (byte_at bs (o + 5) ≡ 0)

abbrev pub GoodPattern : List ℕ → ℕ → Type 0
GoodPattern bs l = GoodPatternAt bs l (pattern_offset bs l)

pub data Finding : Type 0 where
  short : Finding
  field : ℕ → Finding
  wrong_length : Finding
  machine_line : ℕ → Finding
  rule_line : ℕ → Finding
  pattern_line : ℕ → Finding

-- when a finding is true of the bytes
abbrev pub Applies : List ℕ → Finding → Type 0
Applies bs short = length bs < 16
Applies bs (field i) = OutOfBounds bs (bounds bs) i
Applies bs wrong_length = length bs ≡ end_at bs → ⊥
Applies bs (machine_line i) = GoodMachine bs i → ⊥
Applies bs (rule_line r) = GoodRule bs r → ⊥
Applies bs (pattern_line l) = GoodPattern bs l → ⊥

-- the refusal of a finding: its number and its offset
abbrev pub numbers : List ℕ → Finding → Fault
numbers bs short = fault_at TableLength 0
numbers bs (field i) = fault_at TableHeader (2 * i)
numbers bs wrong_length = fault_at TableLength 0
numbers bs (machine_line i) = fault_at TableLine (machine_offset i)
numbers bs (rule_line r) = fault_at TableLine (rule_offset bs r)
numbers bs (pattern_line l) = fault_at TableLine (pattern_offset bs l)

-- the header's fields, then the length, then line by line
abbrev pub header_order : Order Finding
header_order = one short then under field fields then one wrong_length

abbrev pub machine_order : List ℕ → Order Finding
machine_order bs = each (machines_n bs) (λ i. one (machine_line i))

abbrev pub rule_order : List ℕ → Order Finding
rule_order bs = each (rules_n bs) (λ r. one (rule_line r))

abbrev pub pattern_order : List ℕ → Order Finding
pattern_order bs = each (pattern_lines_n bs) (λ l. one (pattern_line l))

abbrev pub order : List ℕ → Order Finding
order bs = header_order then machine_order bs then rule_order bs then pattern_order bs
