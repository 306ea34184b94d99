use Rattle.std.proofs.Common.{◌∙◌}
use Rattle.model.specs.Order.{one}
use Rattle.table.specs.Findings.{pattern_line}
use Rattle.table.specs.Layout.{pattern_lines_n}
use Rattle.table.proofs.Parts.{lines_long}
use Rattle.table.proofs.Checks.{finds_each}
use Rattle.table.proofs.view.Table.check_pattern_lines.Goals as goal

pub returns : goal.returns
returns c =
    let bs = c.args.self.now.bytes.now in
    finds_each bs (λ i. one (pattern_line i)) c.pattern_line_count.result (pattern_lines_n bs) c.check_lines.result c.check_lines.ensures (c.pattern_line_count.ensures ∙ lines_long bs)
