use Rattle.std.proofs.Common.{ℕ, ◌<◌}
use Rattle.table.specs.Header.{OutOfBounds}
use Rattle.table.proofs.header.check_fields.Given as goal

abbrev pub invariant-loop-field : goal.invariant-loop-field
invariant-loop-field l = (j : ℕ) → j < l.field → OutOfBounds l.bytes l.bounds j → ⊥
