use Rattle.std.proofs.Common.{◌<◌, refl, arith, below_more}
use Rattle.model.specs.System.{rule_of}
use Rattle.table.proofs.Parts.{rules_long, machines_long}
use Rattle.table.specs.Layout.{rules_n}
use Rattle.table.specs.SystemOf.{system_of}
use Rattle.checker.specs.Case.{table_at}
use Rattle.checker.proofs.case.Judgement.all_inside.Goals as goal

pub loop-i-preserved : goal.loop-i-preserved
loop-i-preserved g c = below_more _ c.loop-i.i c.loop-i.invariant (c.machine_inside.ensures c.if-not-machine_inside.false)

pub returns : goal.returns
returns g c e r h =
    let bs = table_at c.args.self.now in
    let lt : r < rules_n bs = omega (arith, rules_long bs, h) in
    c.loop-i.invariant (rule_of (system_of bs) r).machine (omega (arith, (c.args.self.now.judge.now.case.now.table.ready.proper.rules r h).machine, machines_long bs, c.requires.machines)) r lt refl
