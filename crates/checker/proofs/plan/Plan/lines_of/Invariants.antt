use Rattle.std.proofs.Common.{◌≡◌, ℕ, ◌<◌, length, get_or}
use Rattle.table.specs.Layout.{pattern_offset}
use Rattle.table.specs.Lines.{pattern_line_at}
use Rattle.checker.specs.Plan.{no_line}
use Rattle.checker.proofs.plan.Plan.lines_of.Given as goal

abbrev pub invariant-loop-l : goal.invariant-loop-l
invariant-loop-l l = (length l.lines ≡ 64) × ((j : ℕ) → j < l.l → get_or l.lines j no_line ≡ pattern_line_at l.table.view.bytes.now (pattern_offset l.table.view.bytes.now j))
