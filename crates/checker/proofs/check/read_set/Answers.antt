use Rattle.std.proofs.Common.{Err, ◌∙◌}
use Rattle.std.proofs.lemmas.Result.{err_from_is_err_and}
use Rattle.model.specs.Order.{Nothing, FirstFault}
use Rattle.checker.specs.Verdict.{Applies, numbers, form_order}
use Rattle.checker.proofs.Whole.{claimed, of_files, table_fault, after_table, reads_nothing, form_refused}
use Rattle.checker.proofs.check.read_set.Goals as goal

pub returns-in_err-view : goal.returns-in_err-view
returns-in_err-view g c =
    let bs = c.args.table.now in
    let s = c.args.set.now in
    let T = claimed g.A.QueueAbstraction c.args.abstraction.now bs s in
    let e = err_from_is_err_and c.from_residual.result c.from_residual.ensures.1 in
    let b = table_fault bs s T (form_order s) c.in_err-view.field-0.0 c.in_err-view.ensures.verdict in
    rw (e.1, e.2) (form_refused bs s T _ b)

pub returns-in_err-check_form : goal.returns-in_err-check_form
returns-in_err-check_form g c =
    let q = g.A.QueueAbstraction in
    let bs = c.args.table.now in
    let s = c.args.set.now in
    let T = claimed q c.args.abstraction.now bs s in
    let v = c.in_ok-view.ensures.verdict in
    let f = c.in_err-check_form.field-0.0 in
    let e = err_from_is_err_and c.from_residual-in_err-check_form.result c.from_residual-in_err-check_form.ensures.1 in
    let case = c.over.ensures in
    let first = of_files q c.over.result (case.table ∙ v.0) (case.set ∙ c.over-states.ensures) case.abstraction (λ b o U. FirstFault (Applies b o U) (numbers b) (form_order o) f) c.in_err-check_form.ensures.form in
    let b = after_table bs s T (form_order s) (Err f) v.1 first in
    rw (e.1, e.2) (form_refused bs s T f b)

pub returns : goal.returns
returns g c =
    let v = c.in_ok-view.ensures.verdict in
    let case = c.over.ensures in
    let nothing = of_files g.A.QueueAbstraction c.over.result (case.table ∙ v.0) (case.set ∙ c.over-states.ensures) case.abstraction (λ b o U. Nothing (Applies b o U) (form_order o)) c.in_ok-check_form.ensures.form in
    (c.over-states.ensures, v.1, nothing, (reads_nothing c.args.table.now c.args.set.now (claimed g.A.QueueAbstraction c.args.abstraction.now c.args.table.now c.args.set.now) v.1, nothing))
