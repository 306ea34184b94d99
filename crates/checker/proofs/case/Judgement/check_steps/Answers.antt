use Rattle.std.proofs.Common.{arith, below_more}
use Rattle.std.proofs.lemmas.Result.{err_from_is_err_and}
use Rattle.model.proofs.Findings.{answered_at}
use Rattle.table.proofs.Parts.{rules_long}
use Rattle.checker.specs.Case.{table_at}
use Rattle.checker.proofs.case.Judgement.check_steps.Goals as goal

pub check_rule-requires : goal.check_rule-requires
check_rule-requires g c = record { sound = c.requires; below = omega (arith, rules_long (table_at c.args.self.now)) }

pub returns-in_err-check_rule : goal.returns-in_err-check_rule
returns-in_err-check_rule g c =
    let p = err_from_is_err_and c.from_residual.result c.from_residual.ensures.1 in
    rw (p.1, p.2) (answered_at _ _ _ _ c.loop-r.r _ (omega arith) c.in_err-check_rule.ensures c.loop-r.invariant)

pub loop-r-preserved : goal.loop-r-preserved
loop-r-preserved g c = below_more _ c.loop-r.r c.loop-r.invariant c.in_ok-check_rule.ensures

pub returns : goal.returns
returns g c = λ j h. c.loop-r.invariant j (omega arith)
