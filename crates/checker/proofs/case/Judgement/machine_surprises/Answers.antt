use Rattle.std.proofs.Common.{refl, arith}
use Rattle.model.proofs.Findings.{answered_at, found}
use Rattle.checker.proofs.case.Judgement.machine_surprises.Goals as goal

pub returns-then-lets_surprise : goal.returns-then-lets_surprise
returns-then-lets_surprise g c =
    answered_at _ _ _ _ c.loop-e.e _ (omega (arith, c.events-e-end.ensures)) (found _ _ _ _ _ (rw (c.from.ensures, c.from-then-lets_surprise.ensures) at c.fault.ensures) (refl, c.lets_surprise.ensures.0 c.if-lets_surprise.true)) c.loop-e.invariant

pub returns : goal.returns
returns g c = λ j h. c.loop-e.invariant j (omega (arith, c.events-e-end.ensures))
