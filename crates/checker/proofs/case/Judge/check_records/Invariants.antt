use Rattle.std.proofs.Common.{ℕ, ◌<◌}
use Rattle.model.specs.Order.{Nothing}
use Rattle.checker.specs.Inner.{Calm}
use Rattle.table.specs.Layout.{machines_n}
use Rattle.closed_sets.specs.Judging.{Applies, of_record}
use Rattle.checker.specs.Case.{claim}
use Rattle.checker.proofs.case.Judge.check_records.Given as goal

abbrev pub invariant-loop-k : goal.invariant-loop-k
invariant-loop-k g l = let T = claim g.A.QueueAbstraction l.self.case.now in ((j : ℕ) → j < l.k → Nothing (Applies T) (of_record T j)) × (0 < l.k → Calm T (machines_n l.self.case.now.table.view.bytes.now) l.last)
