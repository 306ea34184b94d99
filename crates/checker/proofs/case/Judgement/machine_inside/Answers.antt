use Rattle.std.proofs.Common.{ℕ, ◌+◌, sym, ap, ◌∙◌, subst, inl, inr, arith}
use Rattle.std.proofs.lemmas.Bool.{cases_eq}
use Rattle.model.specs.Order.{Nothing}
use Rattle.model.specs.System.{rule_of}
use Rattle.checker.proofs.Deciding.{not_from, judged_ok, rule_in}
use Rattle.checker.proofs.Walking.{Walked, walk_on}
use Rattle.checker.specs.Held.{record_in}
use Rattle.checker.specs.Plan.{cell_of, cell_at, FirstFrom}
use Rattle.closed_sets.specs.Judging.{Applies, outcomes_of}
use Rattle.closed_sets.specs.Records.{Record, local_in}
use Rattle.table.specs.SystemOf.{system_of}
use Rattle.checker.specs.Case.{claim_at, table_at}
use Rattle.checker.proofs.case.Judgement.machine_inside.Goals as goal

pub loop-next-preserved : goal.loop-next-preserved
loop-next-preserved g c =
    let bs = table_at c.args.self.now in
    let T = claim_at g.A.QueueAbstraction c.args.self.now in
    let x = cell_of c.args.i (local_in (record_in c.args.self.now.held) c.args.i) in
    let r = c.in-Some.r in
    let P : ℕ → Type 0 = λ j. Nothing (Applies T) (outcomes_of T c.args.self.now.k j) in
    let w = subst (Walked P bs x) c.in-Some.is c.loop-next.invariant in
    let on = subst (FirstFrom bs (cell_at bs r) (r + 1)) (sym c.after-next.ensures) (c.args.self.now.planned.chained.next r (omega arith) w.0) in
    walk_on P bs x r c.after-next.result w (judged_ok T (outcomes_of T c.args.self.now.k r) c.check_rule.result (sym c.is_err.ensures.value ∙ c.if-is_err.false) c.check_rule.ensures) (subst (λ (z : ℕ). FirstFrom bs z (r + 1) c.after-next.result) w.1 on)

pub returns : goal.returns
returns g c e r h m =
    let bs = table_at c.args.self.now in
    let T = claim_at g.A.QueueAbstraction c.args.self.now in
    let x = rule_of (system_of bs) r in
    let own = local_in (record_in c.args.self.now.held) c.args.i in
    let P : ℕ → Type 0 = λ j. Nothing (Applies T) (outcomes_of T c.args.self.now.k j) in
    elim (cases_eq x.from own) [
      | inl s ↦ subst (Walked P bs (cell_of c.args.i own)) c.in_default.is c.loop-next.invariant r h (ap (λ (z : ℕ). cell_of z x.from) m ∙ ap (cell_of c.args.i) s)
      | inr ne ↦ (λ o l. not_from (g.met.A.QueueAbstraction.meaning _) c.requires.sound (rule_in c.args.self.now h) (λ f. ne (sym f ∙ ap (λ (z : Record). local_in z x.machine) (sym c.requires.sound.is) ∙ ap (local_in (record_in c.args.self.now.held)) m)) o)
    ]
