use Rattle.std.proofs.Common.{ℕ, List, subst}
use Rattle.std.proofs.lemmas.Result.{err_from_is_err_and}
use Rattle.model.proofs.Findings.{not_both, fault_only}
use Rattle.model.proofs.Flat.{nothing_laid, first_laid}
use Rattle.table.specs.Findings.{Applies, numbers, order}
use Rattle.table.specs.Reading.{Reads, Refuses}
use Rattle.table.proofs.Wholesome.{reads_well_formed, reads_numbered}
use Rattle.table.proofs.view.Table.read.Goals as goal

pub returns-in_err-check : goal.returns-in_err-check
returns-in_err-check c =
    let bs = c.args.bytes.now in
    let A = Applies bs in
    let n = numbers bs in
    let e = err_from_is_err_and c.from_residual.result c.from_residual.ensures.1 in
    let h : Refuses bs c.in_err-check.field-0.0 = subst (λ (b : List ℕ). Refuses b c.in_err-check.field-0.0) c.over-table.ensures c.in_err-check.ensures in
    rw (e.1, e.2) (record {
      verdict = h;
      only = ((λ reads. not_both A n (order bs) h.finding reads h.first), (λ g k. fault_only A n (order bs) g _ k h));
      listed = (h.finding, h.numbered, first_laid A (order bs) h.finding h.first);
      well_formed = tt;
    })

pub returns : goal.returns
returns c =
    let bs = c.args.bytes.now in
    let h : Reads bs = subst Reads c.over-table.ensures c.in_ok-check.ensures in
    record {
      verdict = (c.over-table.ensures, h);
      only = λ f k. not_both (Applies bs) (numbers bs) (order bs) k.finding h k.first;
      listed = nothing_laid (Applies bs) (order bs) h;
      well_formed = (reads_well_formed bs h, reads_numbered bs h);
    }
