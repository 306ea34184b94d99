use Rattle.std.proofs.Common.{ℕ, ◌<◌}
use Rattle.closed_sets.specs.Judging.{Applies, surprise}
use Rattle.checker.specs.Case.{claim_at}
use Rattle.checker.proofs.case.Judgement.machine_surprises.Given as goal

abbrev pub invariant-loop-e : goal.invariant-loop-e
invariant-loop-e g l = (j : ℕ) → j < l.e → Applies (claim_at g.A.QueueAbstraction l.self) (surprise l.self.k l.i j) → ⊥
