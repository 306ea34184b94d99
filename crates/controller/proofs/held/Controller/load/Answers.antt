use Rattle.std.proofs.Common.{ap, ◌∙◌}
use Rattle.table.specs.SystemOf.{system_of}
use Rattle.table.specs.declared.view.Table.{Table}
use Rattle.controller.specs.Hosted.{hosted}
use Rattle.controller.proofs.Hosting.{hosted_whole}
use Rattle.controller.proofs.held.Controller.load.Goals as goal

pub returns-clause-whole : goal.returns-clause-whole
returns-clause-whole c = λ reads. ap (λ (t : Table). hosted (system_of t.bytes.now)) c.table-table.ensures ∙ hosted_whole c.args.pass.table.bytes.now reads
