use Rattle.std.proofs.Common.{◌≡◌, ℕ, ◌+◌, ◌-◌, ◌*◌, subst, arith, below_more}
use Rattle.std.proofs.lemmas.Result.{err_from_is_err_and}
use Rattle.model.proofs.Findings.{answered_at}
use Rattle.checker.specs.SetFile.{Before, record_byte}
use Rattle.table.specs.Layout.{machines_n}
use Rattle.checker.proofs.case.Case.form_records.Goals as goal

pub returns-in_err-form_record : goal.returns-in_err-form_record
returns-in_err-form_record g c =
    let p = err_from_is_err_and c.from_residual.result c.from_residual.ensures.1 in
    rw (p.1, p.2) (answered_at _ _ _ _ c.loop-k.k _ (omega (arith, c.record_count-k-end.ensures)) c.in_err-form_record.ensures (λ j l. ((λ no. no (c.loop-k.invariant j l).0), (λ no. no.1 ((c.loop-k.invariant j l).1 no.0)))))

pub loop-k-preserved : goal.loop-k-preserved
loop-k-preserved g c = below_more _ c.loop-k.k c.loop-k.invariant c.in_ok-form_record.ensures

pub returns : goal.returns
returns g c =
    let n = machines_n c.args.self.now.table.view.bytes.now in
    let bs = c.args.self.now.set.bytes.now in
    record {
      sound = λ k l. (c.loop-k.invariant k (omega (arith, c.record_count-k-end.ensures))).0;
      rising = λ k l. (let e : k + 1 - 1 ≡ k = omega arith in subst (λ (z : ℕ). Before (9 * n) (record_byte n bs z) (record_byte n bs (k + 1))) e ((c.loop-k.invariant (k + 1) (omega (arith, c.record_count-k-end.ensures))).1 (omega arith)));
    }
