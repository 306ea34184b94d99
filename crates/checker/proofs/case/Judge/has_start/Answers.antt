use Rattle.std.proofs.Common.{◌≡◌, ℕ, List, [], replicate, Decides, sym, ap, ◌∙◌, subst}
use lib.LanesLaws.{map-replicate}
use Rattle.model.specs.State.{start}
use Rattle.model.specs.System.{machines}
use Rattle.checker.specs.Held.{record_in}
use Rattle.checker.specs.Inner.{ListedIn}
use Rattle.checker.specs.SetFile.{records_of}
use Rattle.closed_sets.specs.Records.{Record, codes}
use Rattle.table.proofs.Parts.{machines_long}
use Rattle.table.specs.Layout.{machines_n, events_n}
use Rattle.table.specs.SystemOf.{system_of}
use Rattle.checker.specs.Case.{claim}
use Rattle.checker.proofs.case.Judge.has_start.Goals as goal

pub returns : goal.returns
returns g c =
    let q = g.A.QueueAbstraction in
    let p = c.args.self.now.case.now.abstraction.now in
    let bs = c.args.self.now.case.now.table.view.bytes.now in
    let T = claim g.A.QueueAbstraction c.args.self.now.case.now in
    let law = g.met.A.QueueAbstraction.meaning p in
    let e : record_in c.uniform-held.result ≡ codes T (start (system_of bs)) =
    c.uniform-held.ensures.is
    ∙ ap (λ (z : ℕ). replicate c.machines.result (0, z)) (c.empty.ensures ∙ sym (law.start (events_n bs)))
    ∙ ap (λ (z : ℕ). replicate z (0, q.code p (events_n bs) [])) (c.machines.ensures ∙ sym (machines_long bs))
    ∙ sym (map-replicate (λ (x : ℕ × List ℕ). (x.0, q.code p (events_n bs) x.1)) (machines (system_of bs)) (0, [])) in
    subst (λ (z : Record). Decides c.contains.result (ListedIn (records_of (machines_n bs) c.args.self.now.case.now.set.bytes.now) z)) e
    (subst (λ (z : ℕ). Decides c.contains.result (ListedIn (records_of z c.args.self.now.case.now.set.bytes.now) (record_in c.uniform-held.result))) (c.uniform-held.ensures.machines ∙ c.machines.ensures) c.contains.ensures)
