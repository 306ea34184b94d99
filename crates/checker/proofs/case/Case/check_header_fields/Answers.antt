use Rattle.model.proofs.Findings.{answered_under}
use Rattle.table.specs.Header.{fields}
use Rattle.checker.specs.Verdict.{HeaderApplies, header_numbers, field}
use Rattle.checker.proofs.case.Case.check_header_fields.Goals as goal

pub returns : goal.returns
returns g c =
    answered_under (HeaderApplies c.args.self.now.table.view.bytes.now c.args.self.now.set.bytes.now) header_numbers field fields c.check_fields.result (rw (c.bytes.ensures, c.header_bounds.ensures) at c.check_fields.ensures)
