use Rattle.std.proofs.Common.{Err}
use Rattle.std.proofs.lemmas.Result.{err_from_is_err_and}
use Rattle.model.specs.Order.{◌then◌}
use Rattle.model.proofs.Findings.{answered_first, answered_after}
use Rattle.table.specs.Findings.{Applies, numbers, header_order, machine_order, rule_order, pattern_order}
use Rattle.table.proofs.view.Table.check.Goals as goal

pub returns-in_err-check_rule_lines : goal.returns-in_err-check_rule_lines
returns-in_err-check_rule_lines c =
    let bs = c.args.self.now.bytes.now in
    let A = Applies bs in
    let n = numbers bs in
    let e = err_from_is_err_and c.from_residual-in_err-check_rule_lines.result c.from_residual-in_err-check_rule_lines.ensures.1 in
    rw (e.1, e.2) (answered_after A n header_order (machine_order bs then rule_order bs then pattern_order bs) (Err _) c.in_ok-check_header.ensures
    (answered_after A n (machine_order bs) (rule_order bs then pattern_order bs) (Err _) c.in_ok-check_machine_lines.ensures
    (answered_first A n (rule_order bs) (pattern_order bs) _ c.in_err-check_rule_lines.ensures)))
