use Rattle.std.proofs.lemmas.Result.{err_from_is_err_and}
use Rattle.std.proofs.Common.{Err}
use Rattle.model.proofs.Findings.{answered_under, answered_first}
use Rattle.checker.proofs.Whole.{form_answered, form_ready}
use Rattle.checker.specs.Case.{claim}
use Rattle.checker.specs.Verdict.{Applies, numbers, in_header, header_order}
use Rattle.checker.proofs.case.Case.check_form.Goals as goal

pub returns-in_err-check_header : goal.returns-in_err-check_header
returns-in_err-check_header g c =
    let bs = c.args.self.now.table.view.bytes.now in
    let A = Applies bs c.args.self.now.set.bytes.now (claim g.A.QueueAbstraction c.args.self.now) in
    let e = err_from_is_err_and c.from_residual.result c.from_residual.ensures.1 in
    rw (e.1, e.2) (record { form = answered_first A _ _ _ _ (answered_under A (numbers bs) in_header header_order (Err c.in_err-check_header.field-0.0) c.in_err-check_header.ensures); ready = tt })

pub returns : goal.returns
returns g c =
    let bs = c.args.self.now.table.view.bytes.now in
    let s = c.args.self.now.set.bytes.now in
    let T = claim g.A.QueueAbstraction c.args.self.now in
    let h = c.in_ok-check_header.ensures in
    record { form = form_answered bs s T h c.form_records.result c.form_records.ensures; ready = form_ready bs s T h c.form_records.result c.form_records.ensures }
