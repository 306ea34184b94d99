use Rattle.std.proofs.lemmas.Result.{err_from_is_err_and}
use Rattle.model.proofs.Findings.{answered_first, answered_after}
use Rattle.checker.specs.Case.{claim}
use Rattle.checker.specs.Verdict.{Applies, numbers, form_order, closed_order}
use Rattle.checker.proofs.case.Case.check_set.Goals as goal

pub returns-in_err-check_form : goal.returns-in_err-check_form
returns-in_err-check_form g c =
    let e = err_from_is_err_and c.from_residual.result c.from_residual.ensures.1 in
    rw (e.1, e.2) (record { first = answered_first _ _ _ _ _ c.in_err-check_form.ensures.form; closed = tt })

pub returns : goal.returns
returns g c =
    let bs = c.args.self.now.table.view.bytes.now in
    let s = c.args.self.now.set.bytes.now in
    let T = claim g.A.QueueAbstraction c.args.self.now in
    record { first = answered_after (Applies bs s T) (numbers bs) (form_order s) (closed_order T) c.check_closed.result c.in_ok-check_form.ensures.form c.check_closed.ensures.first; closed = c.check_closed.ensures.closed }
