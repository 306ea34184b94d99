use Rattle.std.proofs.Common.{ℕ, ◌-◌, ◌*◌, ◌<◌}
use Rattle.checker.specs.SetFile.{Before, record_byte}
use Rattle.closed_sets.specs.Records.{Sound, record_of}
use Rattle.table.specs.Layout.{machines_n}
use Rattle.checker.specs.Case.{claim}
use Rattle.checker.proofs.case.Case.form_records.Given as goal

abbrev pub invariant-loop-k : goal.invariant-loop-k
invariant-loop-k g l = let T = claim g.A.QueueAbstraction l.self in let n = machines_n l.self.table.view.bytes.now in
    (j : ℕ) → j < l.k → Sound T (record_of T j) × (0 < j → Before (9 * n) (record_byte n l.self.set.bytes.now (j - 1)) (record_byte n l.self.set.bytes.now j))
