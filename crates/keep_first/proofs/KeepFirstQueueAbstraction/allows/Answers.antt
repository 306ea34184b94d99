use Rattle.std.proofs.Common.{ℕ, eqb, List, ◌∷◌, Decides, sym, refl, ◌∙◌, subst, arith}
use Rattle.std.proofs.lemmas.Bool.{false≢true, eqb-true}
use Rattle.model.specs.declared.queue.Front.{Front}
use Rattle.abstraction.specs.Meaning.{Allowed}
use Rattle.model.specs.Queue.{Begins}
use Rattle.keep_first.specs.KeepFirst.{keep_bits, keep_code}
use Rattle.keep_first.specs.Kept.{allow_none, allow_parts, allow_up}
use Rattle.keep_first.proofs.KeepFirstQueueAbstraction.allows.Goals as goal
use Rattle.keep_first.proofs.KeepFirstQueueAbstraction.allows.Goals.{in-Any, in-Empty, in-Event-front}

pub returns-then-in_use : goal.returns-then-in_use
returns-then-in_use g c =
    let p = c.args.self.now.below in
    let w = g.A.QueueAbstraction.bits p in
    let code = g.A.QueueAbstraction.code p in
    subst (λ (x : ℕ). Decides (eqb c.args.mask 0) (Allowed (keep_bits w) (keep_code code) c.args.m x c.args.front c.args.mask)) (sym c.if-c-eq0.true)
    (allow_none w code c.args.m c.args.mask c.args.front (c.if-in_use.ensures.0 refl) (omega arith) c.in_default.not-Event)

pub returns-then-begins : goal.returns-then-begins
returns-then-begins g c =
    let s = c.in-Some.ensures in
    let begin : (Q : List ℕ) → Begins c.args.front (c.in-Some.first ∷ Q) = λ Q. elim c.match-front-2.branch [
      | in-Any w ↦ subst (λ (x : Front). Begins x (c.in-Some.first ∷ Q)) (sym w.in-Any.is) tt
      | in-Empty w ↦ absurd (false≢true (sym w.begins-is ∙ c.if-begins.true))
      | in-Event-front w ↦ subst (λ (x : Front). Begins x (c.in-Some.first ∷ Q)) (sym w.in-Event-front.is) (sym (eqb-true _ _ (sym w.begins-is ∙ c.if-begins.true)))
    ] in
    allow_up _ _ c.args.m c.args.c _ _ c.args.mask _ c.args.front _ s.0 s.1 s.2 c.without.ensures.bits begin c.allows.ensures

pub returns-in_default-split : goal.returns-in_default-split
returns-in_default-split g c = (λ t. absurd (false≢true t), λ h. absurd (allow_parts _ _ _ _ _ _ c.if-c-eq0.false c.in_default-split.ensures h))
