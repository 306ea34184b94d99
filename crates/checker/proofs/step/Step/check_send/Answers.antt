use Rattle.std.proofs.Common.{ℕ, set, sym, refl, ap, ◌∙◌, subst₂, arith}
use Rattle.checker.proofs.Deciding.{judged_inside, sends_there, machine_at, entry_code, appends_as}
use Rattle.checker.specs.Held.{record_in}
use Rattle.closed_sets.specs.Codes.{moved_in, sent_in}
use Rattle.closed_sets.specs.Records.{record_of}
use Rattle.abstraction.specs.Meaning.{Good}
use Rattle.checker.specs.Case.{claim_at}
use Rattle.checker.proofs.step.Step.check_send.Goals as goal

pub entry-local-requires : goal.entry-local-requires
entry-local-requires g c = omega (arith, (sends_there c.args.self.now c.requires.action).1, c.moved-next.ensures.machines)

pub returns-in_default : goal.returns-in_default
returns-in_default g c =
    let j = c.args.self.now.judgement.now in
    let T = claim_at g.A.QueueAbstraction j in
    let sends = sends_there c.args.self.now c.requires.action in
    let good = c.requires.sound.sound.good c.args.target (machine_at j sends.1) in
    absurd (c.in_default.ensures (subst₂ (Good T.width T.code) (sym c.events.ensures) (sym (entry_code c.requires.sound c.args.target c.entry-there.ensures)) good) (omega (arith, sends.0, c.events.ensures)))

pub returns : goal.returns
returns g c =
    let j = c.args.self.now.judgement.now in
    let T = claim_at g.A.QueueAbstraction j in
    let x = c.args.self.now.rule in
    let t = c.args.target in
    let r = record_of T j.k in
    let d = c.in-Some.longer in
    let there = entry_code c.requires.sound t c.entry-there.ensures in
    let own = entry_code c.requires.sound x.machine c.entry-own.ensures in
    judged_inside c.args.self.now g.A.QueueAbstraction (g.met.A.QueueAbstraction.meaning _) c.requires.sound c.requires.action _ c.inside.result
    (d, refl, appends_as T.code c.events.ensures there c.in-Some.ensures.2, refl)
    refl
    (c.with-sent.ensures.is ∙ ap (λ (z : ℕ × ℕ). set (record_in c.moved-next.result) t (z.0, d)) c.entry-local.ensures ∙ ap (sent_in t d) (c.moved-next.ensures.is ∙ ap (λ (z : ℕ). moved_in x z r) own))
    c.inside.ensures
