use Rattle.std.proofs.Common.{ℕ, ◌<◌}
use Rattle.model.specs.Order.{Nothing}
use Rattle.closed_sets.specs.Judging.{Applies, outcomes_of}
use Rattle.checker.specs.Case.{claim_at}
use Rattle.checker.proofs.case.Judgement.check_steps.Given as goal

abbrev pub invariant-loop-r : goal.invariant-loop-r
invariant-loop-r g l = let T = claim_at g.A.QueueAbstraction l.self in (j : ℕ) → j < l.r → Nothing (Applies T) (outcomes_of T l.self.k j)
