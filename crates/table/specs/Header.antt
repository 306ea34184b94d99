-- A header of eight fields of two bytes, each with a least and a greatest value. Assumes nothing.
use Rattle.std.specs.Prelude.{ℕ, ◌*◌, ◌<◌, ◌⊎◌, List, slice_index_or}
use Rattle.model.specs.declared.fault.Refusal.{Refusal}
use Rattle.model.specs.declared.fault.Fault.{Fault}
use Rattle.model.specs.Order.{Order, one, each}
use Rattle.table.specs.Bytes.{word_at}

-- field i of the header is below its least value or above its greatest
abbrev pub OutOfBounds : List ℕ → List (ℕ × ℕ) → ℕ → Type 0
OutOfBounds bs bounds i = (word_at bs (2 * i) < (slice_index_or bounds i (0, 0)).0) ⊎ ((slice_index_or bounds i (0, 0)).1 < word_at bs (2 * i))

-- a refusal with a place in the file, and no more values
abbrev pub fault_at : Refusal → ℕ → Fault
fault_at n a = record { number = n; a = a; b = 0; c = 0 }

-- the fields from the first to the last
abbrev pub fields : Order ℕ
fields = each 8 one
