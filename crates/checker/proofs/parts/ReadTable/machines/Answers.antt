use Rattle.std.proofs.Common.{◌∙◌}
use Rattle.table.proofs.Parts.{machines_long}
use Rattle.checker.proofs.parts.ReadTable.machines.Goals as goal

pub returns : goal.returns
returns c = c.machine_count.ensures ∙ machines_long c.args.self.now.view.bytes.now
