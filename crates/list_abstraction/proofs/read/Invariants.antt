use Rattle.list_abstraction.proofs.Prefix.{Far}
use Rattle.list_abstraction.proofs.read.Given as goal

abbrev pub invariant-loop-rest : goal.invariant-loop-rest
invariant-loop-rest l = Far l.m l.c l.rest l.mask

abbrev pub decreases-loop-rest : goal.decreases-loop-rest
decreases-loop-rest l = l.rest
