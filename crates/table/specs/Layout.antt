-- Where the parts of a table file lie. Assumes nothing.
use Rattle.std.specs.Prelude.{ℕ, ◌+◌, ◌*◌, List}
use Rattle.table.specs.Bytes.{word_at}

-- how many there are of each
abbrev pub machines_n : List ℕ → ℕ
machines_n bs = word_at bs 2

abbrev pub events_n : List ℕ → ℕ
events_n bs = word_at bs 4

abbrev pub rules_n : List ℕ → ℕ
rules_n bs = word_at bs 6

abbrev pub pattern_lines_n : List ℕ → ℕ
pattern_lines_n bs = word_at bs 8

-- where the rules and the pattern lines begin, and where the file ends
abbrev pub rules_at : List ℕ → ℕ
rules_at bs = 16 + 2 * machines_n bs

abbrev pub patterns_at : List ℕ → ℕ
patterns_at bs = rules_at bs + 6 * rules_n bs

abbrev pub end_at : List ℕ → ℕ
end_at bs = patterns_at bs + 6 * pattern_lines_n bs

-- where a line begins
abbrev pub machine_offset : ℕ → ℕ
machine_offset i = 16 + 2 * i

abbrev pub rule_offset : List ℕ → ℕ → ℕ
rule_offset bs r = rules_at bs + 6 * r

abbrev pub pattern_offset : List ℕ → ℕ → ℕ
pattern_offset bs l = patterns_at bs + 6 * l
