-- Numbers in a list of bytes; a byte beyond the end reads as 0. Assumes nothing.
use Rattle.std.specs.Prelude.{ℕ, ◌+◌, ◌*◌, List, slice_index}

abbrev pub byte_at : List ℕ → ℕ → ℕ
byte_at bs i = slice_index bs i

-- two bytes, the low byte first
abbrev pub word_at : List ℕ → ℕ → ℕ
word_at bs i = byte_at bs i + 256 * byte_at bs (i + 1)
