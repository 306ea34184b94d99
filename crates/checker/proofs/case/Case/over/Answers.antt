use Rattle.checker.proofs.Whole.{reads_ready}
use Rattle.checker.proofs.case.Case.over.Goals as goal

pub invariant_of-result : goal.invariant_of-result
invariant_of-result g c = record { ready = reads_ready c.args.view.bytes.now c.requires }
