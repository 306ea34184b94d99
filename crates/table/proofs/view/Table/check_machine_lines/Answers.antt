use Rattle.std.proofs.Common.{◌∙◌}
use Rattle.model.specs.Order.{one}
use Rattle.table.specs.Findings.{machine_line}
use Rattle.table.specs.Layout.{machines_n}
use Rattle.table.proofs.Parts.{machines_long}
use Rattle.table.proofs.Checks.{finds_each}
use Rattle.table.proofs.view.Table.check_machine_lines.Goals as goal

pub returns : goal.returns
returns c =
    let bs = c.args.self.now.bytes.now in
    finds_each bs (λ i. one (machine_line i)) c.machine_count.result (machines_n bs) c.check_lines.result c.check_lines.ensures (c.machine_count.ensures ∙ machines_long bs)
