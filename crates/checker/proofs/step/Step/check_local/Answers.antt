use Rattle.std.proofs.Common.{ℕ, refl, ap}
use Rattle.checker.proofs.Deciding.{judged_inside, entry_code}
use Rattle.checker.specs.Case.{claim_at}
use Rattle.closed_sets.specs.Codes.{moved_in}
use Rattle.closed_sets.specs.Records.{record_of}
use Rattle.checker.proofs.step.Step.check_local.Goals as goal

pub returns : goal.returns
returns g c =
    let j = c.args.self.now.judgement.now in
    let r = record_of (claim_at g.A.QueueAbstraction j) j.k in
    judged_inside c.args.self.now g.A.QueueAbstraction (g.met.A.QueueAbstraction.meaning _) c.requires.sound c.requires.action _ c.inside.result
    (refl, ap (λ (z : ℕ). moved_in c.args.self.now.rule z r) (entry_code c.requires.sound _ c.entry-own.ensures))
    refl c.moved.ensures.is c.inside.ensures
