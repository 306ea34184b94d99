use Rattle.std.proofs.Common.{◌∙◌}
use Rattle.model.specs.Order.{one}
use Rattle.table.specs.Findings.{rule_line}
use Rattle.table.specs.Layout.{rules_n}
use Rattle.table.proofs.Parts.{rules_long}
use Rattle.table.proofs.Checks.{finds_each}
use Rattle.table.proofs.view.Table.check_rule_lines.Goals as goal

pub returns : goal.returns
returns c =
    let bs = c.args.self.now.bytes.now in
    finds_each bs (λ i. one (rule_line i)) c.rule_count.result (rules_n bs) c.check_lines.result c.check_lines.ensures (c.rule_count.ensures ∙ rules_long bs)
