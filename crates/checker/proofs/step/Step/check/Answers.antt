use Rattle.checker.proofs.Deciding.{rule_of_step, judged_one, judged_rule}
use Rattle.checker.specs.Case.{claim_at}
use Rattle.checker.proofs.step.Step.check.Goals as goal

pub returns-in-Local : goal.returns-in-Local
returns-in-Local g c = judged_rule _ _ c.check_local.result (rule_of_step c.args.self.now) c.in-Local.is (judged_one _ _ _ c.check_local.result c.check_local.ensures)

pub returns-in-Take : goal.returns-in-Take
returns-in-Take g c = judged_rule (claim_at g.A.QueueAbstraction c.args.self.now.judgement.now) c.args.self.now.judgement.now.k c.check_take.result (rule_of_step c.args.self.now) c.in-Take.is c.check_take.ensures

pub returns-in-Send : goal.returns-in-Send
returns-in-Send g c = judged_rule _ _ c.check_send.result (rule_of_step c.args.self.now) c.in-Send.is (judged_one _ _ _ c.check_send.result c.check_send.ensures)
