use Rattle.std.proofs.Common.{ℕ, ◌*◌, ◌/◌, ◌^◌, ◌<◌}
use Rattle.checker.specs.Held.{record_in}
use Rattle.checker.specs.SetFile.{record_byte, byte_of, Same}
use Rattle.closed_sets.specs.Records.{code_in}
use Rattle.checker.proofs.state_set.compare.Given as goal

abbrev pub invariant-loop-i : goal.invariant-loop-i
invariant-loop-i l = Same (9 * l.i) (record_byte l.target.machines l.set l.k) (byte_of (record_in l.target)) × ((j : ℕ) → j < 9 * l.i → code_in (record_in l.target) (j / 9) < 2 ^ 64)
