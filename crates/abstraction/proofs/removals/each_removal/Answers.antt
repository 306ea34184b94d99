use Rattle.std.proofs.Common.{ℕ, length, ap}
use Rattle.abstraction.proofs.Few.{few}
use Rattle.std.specs.Iterator.{YieldsFirst}
use Rattle.std.proofs.iter.runs.Sources.{from_front, as_is}
use Rattle.abstraction.proofs.removals.each_removal.Goals as goal

pub returns-clause-runs : goal.returns-clause-runs
returns-clause-runs g c p s = as_is p p.from (from_front (YieldsFirst {A = ℕ × ℕ} (λ l. l)) (λ x. x) (λ l. l) (λ l t h. ap length h.0) (λ l x t h. h) p s)

pub returns-clause-few : goal.returns-clause-few
returns-clause-few g c = few (g.met.A.QueueAbstraction.meaning c.args.abstraction.now) c.args.m c.args.c
