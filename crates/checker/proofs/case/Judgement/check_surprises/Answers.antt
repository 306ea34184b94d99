use Rattle.std.proofs.Common.{sym, ◌∙◌, arith, below_more}
use Rattle.std.proofs.lemmas.Result.{err_from_is_err_and}
use Rattle.model.proofs.Findings.{answered_at}
use Rattle.checker.proofs.Holding.{same_entry}
use Rattle.checker.proofs.Deciding.{machine_at, surprise_as_before}
use Rattle.table.proofs.Parts.{machines_long}
use Rattle.checker.specs.Case.{table_at}
use Rattle.checker.proofs.case.Judgement.check_surprises.Goals as goal

pub returns-in_err-machine_surprises : goal.returns-in_err-machine_surprises
returns-in_err-machine_surprises g c =
    let p = err_from_is_err_and c.from_residual.result c.from_residual.ensures.1 in
    rw (p.1, p.2) (answered_at _ _ _ _ c.loop-i.i _ (omega (arith, machines_long (table_at c.args.self.now), c.requires.sound.machines)) c.in_err-machine_surprises.ensures c.loop-i.invariant)

pub loop-i-preserved : goal.loop-i-preserved
loop-i-preserved g c = below_more _ c.loop-i.i c.loop-i.invariant c.in_ok-machine_surprises.ensures

pub returns : goal.returns
returns g c = λ j h. c.loop-i.invariant j (omega (arith, machines_long (table_at c.args.self.now), c.requires.sound.machines))

pub loop-i-preserved-then-eq : goal.loop-i-preserved-then-eq
loop-i-preserved-then-eq g c =
    let lt = machine_at c.args.self.now {i = c.loop-i.i} (omega (arith, c.requires.sound.machines)) in
    let same = sym c.entry.ensures ∙ same_entry c.entry.result c.entry-then-self-gt0.result (sym c.eq.ensures ∙ c.if-eq.true) ∙ c.entry-then-self-gt0.ensures in
    let calm = c.requires.calm (omega arith) in
    below_more _ c.loop-i.i c.loop-i.invariant (λ e le. surprise_as_before (g.met.A.QueueAbstraction.meaning _) c.requires.sound c.args.last.now lt same (calm.calm c.loop-i.i e lt le))
