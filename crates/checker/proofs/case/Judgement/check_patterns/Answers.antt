use Rattle.std.proofs.Common.{refl, arith}
use Rattle.model.proofs.Findings.{answered_at, found}
use Rattle.table.proofs.Parts.{patterns_long}
use Rattle.checker.specs.Case.{table_at}
use Rattle.checker.proofs.case.Judgement.check_patterns.Goals as goal

pub lets_meet-requires : goal.lets_meet-requires
lets_meet-requires g c = record { sound = c.requires; below = omega (arith, patterns_long (table_at c.args.self.now)) }

pub returns-then-lets_meet : goal.returns-then-lets_meet
returns-then-lets_meet g c = answered_at _ _ _ _ c.loop-n.n _ (omega arith) (found _ _ _ _ _ c.fault.ensures (refl, c.lets_meet.ensures.0 c.if-lets_meet.true)) c.loop-n.invariant

pub returns : goal.returns
returns g c = λ j h. c.loop-n.invariant j (omega arith)
