use Rattle.table.proofs.Parts.{machines_long}
use Rattle.checker.proofs.case.Case.header_bounds.Goals as goal

pub returns : goal.returns
returns g c = cc (machines_long c.args.self.now.table.view.bytes.now)
