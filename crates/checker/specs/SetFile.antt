-- The state set file, and what it claims of a table's system under a queue abstraction. Assumes nothing.
use Rattle.std.specs.Prelude.{◌≡◌, ℕ, ◌+◌, ◌-◌, ◌*◌, ◌/◌, ◌%◌, ◌^◌, ◌<◌, ◌≤◌, cond, List, map, length, ◌==◌, slice_index_or}
use Rattle.std.specs.List.{range_with_len}
use Rattle.table.specs.Bytes.{byte_at, word_at}
use Rattle.table.specs.Layout.{machines_n}
use Rattle.table.specs.SystemOf.{system_of}
use Rattle.closed_sets.specs.Records.{Claim, Record}

-- the number of records
abbrev pub records_n : List ℕ → ℕ
records_n bs = word_at bs 10

-- eight bytes, the low byte first
abbrev pub long_at : List ℕ → ℕ → ℕ
long_at bs o = byte_at bs o + byte_at bs (o + 1) * 256 + byte_at bs (o + 2) * 256 ^ 2 + byte_at bs (o + 3) * 256 ^ 3 + byte_at bs (o + 4) * 256 ^ 4 + byte_at bs (o + 5) * 256 ^ 5 + byte_at bs (o + 6) * 256 ^ 6 + byte_at bs (o + 7) * 256 ^ 7

-- record k of a set for n machines: for each its local state in one byte, then its code in eight
abbrev pub record_at : ℕ → List ℕ → ℕ → Record
record_at n bs k = map (λ i. (byte_at bs (16 + 9 * n * k + 9 * i), long_at bs (16 + 9 * n * k + 9 * i + 1))) (range_with_len 0 n)

abbrev pub records_of : ℕ → List ℕ → List Record
records_of n bs = map (record_at n bs) (range_with_len 0 (records_n bs))

-- what a set claims of a table's system, under an abstraction of that width, codes and removals
abbrev pub claim_of : List ℕ → List ℕ → ℕ → (ℕ → List ℕ → ℕ) → (ℕ → ℕ → List (ℕ × ℕ)) → Claim
claim_of table set w code removals = record { system = system_of table; width = w; code = code; removals = removals; records = records_of (machines_n table) set }

-- byte t of record k
abbrev pub record_byte : ℕ → List ℕ → ℕ → ℕ → ℕ
record_byte n bs k t = byte_at bs (16 + 9 * n * k + t)

-- byte t of the entry that stands at o
abbrev pub entry_byte : List ℕ → ℕ → ℕ → ℕ
entry_byte bs o t = byte_at bs (o + t)

-- one run of z bytes stands before another, compared from the first byte: equal up to some place, and lower there
abbrev pub Before : ℕ → (ℕ → ℕ) → (ℕ → ℕ) → Type 0
Before z f g = (j : ℕ) × (j < z) × ((t : ℕ) → t < j → f t ≡ g t) × (f j < g j)

abbrev pub Same : ℕ → (ℕ → ℕ) → (ℕ → ℕ) → Type 0
Same z f g = (t : ℕ) → t < z → f t ≡ g t

-- byte t of a record as a file has it
abbrev pub byte_in : ℕ × ℕ → ℕ → ℕ
byte_in e t = cond (t == 0) e.0 (e.1 / 2 ^ (8 * (t - 1)) % 256)

abbrev pub byte_of : Record → ℕ → ℕ
byte_of r t = byte_in (slice_index_or r (t / 9) (0, 0)) (t % 9)

-- the set is as long as its header says, and its records rise
pub record SetReady (n : ℕ) (bs : List ℕ) : Type 0 where
  pub head : 16 ≤ length bs
  pub long : length bs ≡ 16 + 9 * n * records_n bs
  pub rising : (k : ℕ) → k + 1 < records_n bs → Before (9 * n) (record_byte n bs k) (record_byte n bs (k + 1))
