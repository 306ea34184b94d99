use Rattle.model.proofs.Findings.{answered_under}
use Rattle.table.specs.Header.{fields}
use Rattle.table.specs.Findings.{Applies, numbers, field}
use Rattle.table.proofs.view.Table.check_header_fields.Goals as goal

pub returns : goal.returns
returns c =
    let bs = c.args.self.now.bytes.now in
    answered_under (Applies bs) (numbers bs) field fields c.check_fields.result (rw (c.bytes.ensures, c.header_bounds.ensures) at c.check_fields.ensures)
