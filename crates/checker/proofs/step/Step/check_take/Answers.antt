use Rattle.std.proofs.Common.{ℕ, subst, arith, below_more}
use Rattle.std.proofs.lemmas.Result.{err_from_is_err_and}
use Rattle.model.proofs.Findings.{answered_at}
use Rattle.checker.proofs.Removing.{step_some, step_none}
use Rattle.checker.specs.Case.{claim_at}
use Rattle.closed_sets.specs.Judging.{Applies, outside}
use Rattle.checker.proofs.step.Step.check_take.Goals as goal

pub take_inside-requires-clause-removal : goal.take_inside-requires-clause-removal
take_inside-requires-clause-removal g c = (step_some _ _ _ _ _ c.loop-c.invariant.2 c.next.result c.in-Some.is c.next.ensures.steps).removal

pub loop-c-preserved : goal.loop-c-preserved
loop-c-preserved g c =
    let T = claim_at g.A.QueueAbstraction c.args.self.now.judgement.now in
    let s = step_some _ _ _ _ _ c.loop-c.invariant.2 c.next.result c.in-Some.is c.next.ensures.steps in
    let inside = subst (λ (z : ℕ). Applies T (outside c.args.self.now.judgement.now.k c.args.self.now.r z) → ⊥) s.number c.in_ok-take_inside.ensures in
    let below = below_more _ _ c.loop-c.invariant.4 inside in
    (c.in-Some.ensures.goes.keeps, tt, s.remain, omega (arith, s.below, s.count), λ j h. below j (omega (arith, h, s.count)))

pub returns-in_err-take_inside : goal.returns-in_err-take_inside
returns-in_err-take_inside g c =
    let s = step_some _ _ _ _ _ c.loop-c.invariant.2 c.next.result c.in-Some.is c.next.ensures.steps in
    let e = err_from_is_err_and c.from_residual.result c.from_residual.ensures.1 in
    rw (e.1, e.2) (answered_at _ _ _ _ c.in-Some.c _ (omega (arith, s.below, s.number)) c.in_err-take_inside.ensures (λ j h. c.loop-c.invariant.4 j (omega (arith, h, s.number))))

pub returns : goal.returns
returns g c =
    let end = step_none _ _ _ _ _ c.loop-c.invariant.2 c.next.result c.in-None.is c.next.ensures.steps in
    λ j h. c.loop-c.invariant.4 j (omega (arith, end, h))
