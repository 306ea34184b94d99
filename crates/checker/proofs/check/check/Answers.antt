use Rattle.std.proofs.Common.{Err, refl, ◌∙◌}
use Rattle.std.proofs.lemmas.Result.{err_from_is_err_and}
use Rattle.model.specs.Order.{Nothing, FirstFault}
use Rattle.closed_sets.specs.Records.{Closed}
use Rattle.checker.specs.Verdict.{Applies, numbers, set_order}
use Rattle.checker.proofs.Whole.{claimed, of_files, reads_ready, table_fault, after_table, reads_nothing, refused, closed_safe}
use Rattle.checker.proofs.check.check.Goals as goal

pub returns-in_err-view : goal.returns-in_err-view
returns-in_err-view g c =
    let bs = c.args.table.now in
    let s = c.args.set.now in
    let T = claimed g.A.QueueAbstraction c.args.abstraction.now bs s in
    let e = err_from_is_err_and c.from_residual.result c.from_residual.ensures.1 in
    let b = table_fault bs s T (set_order s T) c.in_err-view.field-0.0 c.in_err-view.ensures.verdict in
    rw (e.1, e.2) (refused bs s T _ b)

pub returns-in_err-check_set : goal.returns-in_err-check_set
returns-in_err-check_set g c =
    let q = g.A.QueueAbstraction in
    let bs = c.args.table.now in
    let s = c.args.set.now in
    let T = claimed q c.args.abstraction.now bs s in
    let v = c.in_ok-view.ensures.verdict in
    let f = c.in_err-check_set.field-0.0 in
    let e = err_from_is_err_and c.from_residual-in_err-check_set.result c.from_residual-in_err-check_set.ensures.1 in
    let case = c.over-2.ensures in
    let first = of_files q c.over-2.result (case.table ∙ v.0) (case.set ∙ c.over.ensures) case.abstraction (λ b o U. FirstFault (Applies b o U) (numbers b) (set_order o U) f) c.in_err-check_set.ensures.first in
    let b = after_table bs s T (set_order s T) (Err f) v.1 first in
    rw (e.1, e.2) (refused bs s T f b)

pub returns : goal.returns
returns g c =
    let q = g.A.QueueAbstraction in
    let v = c.in_ok-view.ensures.verdict in
    let h = c.in_ok-check_set.ensures in
    let case = c.over-2.ensures in
    let nothing = of_files q c.over-2.result (case.table ∙ v.0) (case.set ∙ c.over.ensures) case.abstraction (λ b o U. Nothing (Applies b o U) (set_order o U)) h.first in
    let closed = of_files q c.over-2.result (case.table ∙ v.0) (case.set ∙ c.over.ensures) case.abstraction (λ b o U. Closed U) h.closed in
    (v.0, refl, record { reads = v.1; form = nothing.0; closed = closed }, closed_safe (claimed q c.args.abstraction.now c.args.table.now c.args.set.now) (reads_ready c.args.table.now v.1).proper closed, (reads_nothing c.args.table.now c.args.set.now (claimed q c.args.abstraction.now c.args.table.now c.args.set.now) v.1, nothing))
