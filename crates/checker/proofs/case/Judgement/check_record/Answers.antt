use Rattle.model.specs.Order.{◌then◌}
use Rattle.model.proofs.Findings.{answered_after}
use Rattle.closed_sets.specs.Judging.{Applies, numbers, surprises, patterns, steps}
use Rattle.checker.specs.Case.{claim_at}
use Rattle.checker.proofs.case.Judgement.check_record.Goals as goal

pub returns : goal.returns
returns g c =
    let T = claim_at g.A.QueueAbstraction c.args.self.now in
    let k = c.args.self.now.k in
    answered_after (Applies T) numbers (surprises T k) (patterns T k then steps T k) _ c.in_ok-check_surprises.ensures (answered_after (Applies T) numbers (patterns T k) (steps T k) _ c.in_ok-check_patterns.ensures c.check_steps.ensures)
