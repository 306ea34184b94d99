use Rattle.std.proofs.Common.{ℕ, ◌<◌}
use Rattle.closed_sets.specs.Judging.{Applies, met}
use Rattle.checker.specs.Case.{claim_at}
use Rattle.checker.proofs.case.Judgement.check_patterns.Given as goal

abbrev pub invariant-loop-n : goal.invariant-loop-n
invariant-loop-n g l = (j : ℕ) → j < l.n → Applies (claim_at g.A.QueueAbstraction l.self) (met l.self.k j) → ⊥
