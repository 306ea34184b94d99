use Rattle.std.proofs.Common.{ap}
use Rattle.table.specs.SystemOf.{system_of}
use Rattle.table.specs.declared.view.Table.{Table}
use Rattle.controller.specs.Hosted.{hosted}
use Rattle.controller.proofs.Promising.{ran}
use Rattle.controller.proofs.run.run.Goals as goal

pub returns-clause-ran : goal.returns-clause-ran
returns-clause-ran c =
    let l = c.load-controller.ensures in
    let a = c.answer_all.ensures in ran a.answers a.state l.state (ap (λ (t : Table). hosted (system_of t.bytes.now)) l.table) l.capacity

pub returns-clause-whole : goal.returns-clause-whole
returns-clause-whole c =
    λ reads few. let l = c.load-controller.ensures in
    let a = c.answer_all.ensures in ran a.answers a.state l.state (l.whole reads) (l.granted few)
