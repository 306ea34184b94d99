use Rattle.checker.proofs.Deciding.{machine_at, surprise_where}
use Rattle.checker.proofs.case.Judgement.lets_surprise.Goals as goal

pub returns : goal.returns
returns g c =
    surprise_where (g.met.A.QueueAbstraction.meaning _) c.requires.sound c.entry-entry.ensures (machine_at c.args.self.now c.requires.below) c.no_take.result c.events.ensures (c.allows.ensures.0 c.if-not-allows.false) c.no_take.ensures
