use Rattle.std.proofs.Common.{arith}
use Rattle.model.specs.Order.{one, under}
use Rattle.model.proofs.Findings.{answered_after, answered_under}
use Rattle.closed_sets.specs.Judging.{judged}
use Rattle.table.specs.Layout.{machines_n}
use Rattle.checker.proofs.Read.{records_long}
use Rattle.checker.proofs.Whole.{closed_if}
use Rattle.checker.specs.Case.{claim}
use Rattle.checker.specs.Verdict.{Applies, numbers, start_absent, in_record}
use Rattle.checker.proofs.case.Judge.check_closed.Goals as goal

pub returns : goal.returns
returns g c =
    let bs = c.args.self.now.case.now.table.view.bytes.now in
    let s = c.args.self.now.case.now.set.bytes.now in
    let T = claim g.A.QueueAbstraction c.args.self.now.case.now in
    let b = c.has_start.ensures.0 c.if-not-has_start.false in
    let r = c.check_records.result in
    record {
      first = answered_after (Applies bs s T) (numbers bs) (one start_absent) (under in_record (judged T)) r (λ none. none b) (answered_under (Applies bs s T) (numbers bs) in_record (judged T) r c.check_records.ensures);
      closed = closed_if T (g.met.A.QueueAbstraction.meaning _) c.args.self.now.case.now.table.ready.proper (λ k l. c.requires k (omega (arith, records_long (machines_n bs) s))) b r c.check_records.ensures;
    }
