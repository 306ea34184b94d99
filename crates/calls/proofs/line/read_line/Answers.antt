use borrow.Author.Tests.{both_ways}
use Rattle.std.proofs.Common.{refl}
use Rattle.calls.specs.declared.line.Line.TheVariants.{Skipped, Capacity}
use Rattle.calls.proofs.Sayings.{said, reads_call}
use Rattle.calls.proofs.line.read_line.Goals as goal

pub returns-then-is_skipped : goal.returns-then-is_skipped
returns-then-is_skipped c = said c.args.line.now Skipped (c.if-is_skipped.ensures.0 refl)

pub returns-in-Some : goal.returns-in-Some
returns-in-Some c = said c.args.line.now (Capacity c.in-Some.capacity) c.in-Some.ensures

pub returns : goal.returns
returns c =
    reads_call c.args.line.now c.read_call.result (λ e. both_ways c.is_skipped.result c.if-is_skipped.false (c.is_skipped.ensures.1 e)) c.in_default.ensures c.read_call.ensures c.map_or.result c.map_or.ensures
