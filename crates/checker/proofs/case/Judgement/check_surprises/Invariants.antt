use Rattle.std.proofs.Common.{ℕ, ◌<◌}
use Rattle.closed_sets.specs.Judging.{Applies, surprise}
use Rattle.table.specs.Layout.{events_n}
use Rattle.checker.specs.Case.{claim_at, table_at}
use Rattle.checker.proofs.case.Judgement.check_surprises.Given as goal

abbrev pub invariant-loop-i : goal.invariant-loop-i
invariant-loop-i g l = (j : ℕ) → j < l.i → (e : ℕ) → e < events_n (table_at l.self) → Applies (claim_at g.A.QueueAbstraction l.self) (surprise l.self.k j e) → ⊥
