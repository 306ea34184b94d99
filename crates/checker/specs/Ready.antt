-- What the check relies on in a table that reads. Assumes nothing.
use Rattle.std.specs.Prelude.{ℕ, ◌+◌, ◌<◌, ◌≤◌, List}
use Rattle.model.specs.System.{WellFormed}
use Rattle.table.specs.Bytes.{byte_at}
use Rattle.table.specs.Layout.{machines_n, events_n, rules_n, pattern_lines_n, pattern_offset}
use Rattle.table.specs.SystemOf.{system_of}

pub record Ready (bs : List ℕ) : Type 0 where
  pub some : 1 ≤ machines_n bs
  pub few : machines_n bs ≤ 6
  pub events : events_n bs ≤ 8
  pub rules : rules_n bs ≤ 256
  pub lines : pattern_lines_n bs ≤ 64
  pub named : (l : ℕ) → l < pattern_lines_n bs → byte_at bs (pattern_offset bs l + 1) < machines_n bs
  pub proper : WellFormed (system_of bs)
