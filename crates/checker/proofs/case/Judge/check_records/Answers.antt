use Rattle.std.proofs.Common.{ℕ, ◌+◌, ◌*◌, ◌<◌, ◌≤◌, length, sym, subst, arith, below_more}
use Rattle.std.proofs.lemmas.Result.{err_from_is_err_and}
use Rattle.model.proofs.Findings.{answered_at}
use Rattle.checker.proofs.Ordered.{room}
use Rattle.checker.proofs.Deciding.{read_judging, calm_from}
use Rattle.checker.proofs.Read.{records_long}
use Rattle.table.specs.Bytes.{word_at}
use Rattle.table.specs.Layout.{machines_n}
use Rattle.checker.proofs.case.Judge.check_records.Goals as goal

pub record-held-requires : goal.record-held-requires
record-held-requires g c =
    let bs = c.args.self.now.case.now.set.bytes.now in
    let n = machines_n c.args.self.now.case.now.table.view.bytes.now in
    let lt : c.loop-k.k < word_at bs 10 = omega (arith, c.record_count-k-end.ensures) in
    let in-set : 16 + 9 * n * c.loop-k.k + 9 * n ≤ length bs = omega (arith, room (9 * n) c.loop-k.k (word_at bs 10) lt, c.args.self.now.rising.long) in
    record { few = omega (arith, c.machines-n.ensures, c.args.self.now.case.now.table.ready.few); long = subst (λ (z : ℕ). 16 + 9 * z * c.loop-k.k + 9 * z ≤ length bs) (sym c.machines-n.ensures) in-set }

pub check_record-requires : goal.check_record-requires
check_record-requires g c =
    let lt : c.loop-k.k < word_at c.args.self.now.case.now.set.bytes.now 10 = omega (arith, c.record_count-k-end.ensures) in
    record {
      sound = read_judging g.A.QueueAbstraction c.args.self.now.case.now _ lt c.machines-n.ensures c.record-held.ensures.is c.record-held.ensures.machines (c.requires c.loop-k.k lt);
      calm = c.loop-k.invariant.1;
    }

pub returns-in_err-check_record : goal.returns-in_err-check_record
returns-in_err-check_record g c =
    let p = err_from_is_err_and c.from_residual.result c.from_residual.ensures.1 in
    let long = records_long (machines_n c.args.self.now.case.now.table.view.bytes.now) c.args.self.now.case.now.set.bytes.now in
    rw (p.1, p.2) (answered_at _ _ _ _ c.loop-k.k _ (omega (arith, long, c.record_count-k-end.ensures)) c.in_err-check_record.ensures c.loop-k.invariant.0)

pub loop-k-preserved : goal.loop-k-preserved
loop-k-preserved g c =
    let k = c.loop-k.k in
    let lt : k < word_at c.args.self.now.case.now.set.bytes.now 10 = omega (arith, c.record_count-k-end.ensures) in
    let judging = read_judging g.A.QueueAbstraction c.args.self.now.case.now _ lt c.machines-n.ensures c.record-held.ensures.is c.record-held.ensures.machines (c.requires k lt) in
    let nothing = c.in_ok-check_record.ensures in
    (below_more _ k c.loop-k.invariant.0 nothing, λ _. calm_from (g.met.A.QueueAbstraction.meaning _) judging judging.machines nothing.0)

pub returns : goal.returns
returns g c = λ j h. c.loop-k.invariant.0 j (omega (arith, records_long (machines_n c.args.self.now.case.now.table.view.bytes.now) c.args.self.now.case.now.set.bytes.now, c.record_count-k-end.ensures))
