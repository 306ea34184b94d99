-- The system that a table file stands for; a byte beyond the end reads as 0. Assumes nothing.
use Rattle.std.specs.Prelude.{ℕ, ◌+◌, ◌-◌, cond, List, map, filter, ◌==◌, nat_eq}
use Rattle.std.specs.List.{range_with_len}
use Rattle.model.specs.declared.pattern.Condition.{Condition}
use Rattle.model.specs.System.{System}
use Rattle.table.specs.declared.line.PatternLine.{PatternLine}
use Rattle.table.specs.Bytes.{byte_at}
use Rattle.table.specs.Layout.{machines_n, events_n, rules_n, pattern_lines_n, machine_offset, rule_offset, pattern_offset}
use Rattle.table.specs.Lines.{rule_at, condition_at, pattern_line_at}

abbrev pub pattern_lines_of : List ℕ → List PatternLine
pattern_lines_of bs = map (λ l. pattern_line_at bs (pattern_offset bs l)) (range_with_len 0 (pattern_lines_n bs))

-- the pattern that line l belongs to
abbrev pub number_of : List ℕ → ℕ → ℕ
number_of bs l = byte_at bs (pattern_offset bs l)

-- patterns are numbered from 0, and the last line belongs to the last
abbrev pub pattern_count : List ℕ → ℕ
pattern_count bs = cond (pattern_lines_n bs == 0) 0 (number_of bs (pattern_lines_n bs - 1) + 1)

-- the conditions in the lines of pattern p
abbrev pub conditions_of : List ℕ → ℕ → List Condition
conditions_of bs p = map (λ l. condition_at bs (pattern_offset bs l)) (filter (λ l. nat_eq (number_of bs l) p) (range_with_len 0 (pattern_lines_n bs)))

abbrev pub system_of : List ℕ → System
system_of bs = record {
  events = events_n bs;
  states = map (λ i. byte_at bs (machine_offset i)) (range_with_len 0 (machines_n bs));
  rules = map (λ r. rule_at bs (rule_offset bs r)) (range_with_len 0 (rules_n bs));
  patterns = map (conditions_of bs) (range_with_len 0 (pattern_count bs));
}
