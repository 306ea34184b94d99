use Rattle.std.proofs.Common.{ℕ, ◌<◌, length, sym, refl, ap, ◌∙◌, subst, rules, arith}
use Rattle.std.proofs.lemmas.Iterator.{cases_from_all, YieldsList-from_range}
use borrow.Author.Tests.{tests}
use Rattle.model.specs.System.{machines, states_of}
use Rattle.abstraction.specs.Meaning.{Good}
use Rattle.checker.proofs.Read.{each_below, decided}
use Rattle.checker.specs.Case.{claim}
use Rattle.checker.specs.Held.{record_in}
use Rattle.closed_sets.specs.Records.{Record, record_of, local_in, code_in}
use Rattle.table.proofs.Parts.{machines_long}
use Rattle.table.specs.Layout.{events_n}
use Rattle.table.specs.SystemOf.{system_of}
use Rattle.checker.proofs.case.Case.is_sound.Goals as goal

pub returns : goal.returns
returns g c =
    let q = g.A.QueueAbstraction in
    let p = c.args.self.now.abstraction.now in
    let bs = c.args.self.now.table.view.bytes.now in
    let n = c.args.held.now.machines in
    let At : ℕ → Record → Type 0 = λ i r. (local_in r i < states_of (system_of bs) i) × Good (q.bits p) (q.code p) (events_n bs) (code_in r i) in
    let P : ℕ → Type 0 = λ i. At i (record_in c.args.held.now) in
    decided c.all.result
    (each_below n P c.all.result (cases_from_all _ _ _ P (λ i. P i → ⊥) c.all.ensures.ran (YieldsList-from_range 0 n n refl (omega arith)) (λ x q k. search (rules, tests)) (λ x q k. search (rules, tests))))
    (λ all.
    let at : (i : ℕ) → i < machines (system_of bs) → At i (record_of (claim q c.args.self.now) c.args.k) = (λ i l. subst (At i) c.requires.is (all i (omega (arith, machines_long bs, c.requires.machines)))) in
    record {
      entries = ap length (sym c.requires.is) ∙ c.requires.sized ∙ sym (machines_long bs);
      locals = λ i l. (at i l).0;
      good = λ i l. (at i l).1;
    })
    (λ other s.
    let l : other.0 < machines (system_of bs) = omega (arith, other.1, machines_long bs, c.requires.machines) in
    other.2 (subst (At other.0) (sym c.requires.is) (s.locals other.0 l, s.good other.0 l)))
