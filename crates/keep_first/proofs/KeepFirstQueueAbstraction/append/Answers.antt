use Rattle.std.proofs.Common.{◌≡◌, ℕ, ◌^◌, ◌<◌, true, ltb, [], Some, sym, refl, ◌∙◌, subst, arith}
use Rattle.std.proofs.lemmas.Bool.{false≢true}
use Rattle.std.proofs.lemmas.Bool.Decides.{nat_tests}
use Rattle.abstraction.specs.Meaning.{Valid, Appended}
use Rattle.keep_first.specs.KeepFirst.{keep_bits, keep_code}
use Rattle.keep_first.specs.Kept.{narrow_below, valid_below, append_up, append_small, good_parts}
use Rattle.keep_first.proofs.KeepFirstQueueAbstraction.append.Goals as goal
use Rattle.keep_first.proofs.KeepFirstQueueAbstraction.append.Goals.{then-in_use, else-in_use}

pub then-requires : goal.then-requires
then-requires g c = λ t. elim c.if-in_use.branch [
  | then-in_use w ↦ λ _ _ _ _ _ _. (
      let p = c.args.self.now.below in
      let bits = g.A.QueueAbstraction.bits p in
      let code = g.A.QueueAbstraction.code p in
      let law = g.met.A.QueueAbstraction.meaning p in
      let v : Valid c.args.m (keep_bits bits) = w.if-in_use.ensures.0 refl in
      let s = law.small c.args.m [] (valid_below bits v) tt in
      let e : c.empty-rest.result ≡ code c.args.m [] = c.empty-rest.ensures ∙ sym (law.start c.args.m) in
      let n = narrow_below bits _ v (subst (λ (x : ℕ). x < 2 ^ bits) (sym e) s) in
      let b : ltb c.args.e c.args.m ≡ true = sym w.then-is ∙ t in
      let l : c.args.e < c.args.m = grind (arith, nat_tests) in
      (omega (arith, l, v.few), omega (arith, n)))
  | else-in_use w ↦ absurd (false≢true (sym (w.then-is ∙ w.if-in_use.false) ∙ t))
]

pub returns-in_err-first : goal.returns-in_err-first
returns-in_err-first g c = rw c.from_residual.ensures (λ h l. good_parts _ _ _ _ c.if-c-eq0.false c.in_err-first.ensures h)

pub join-requires : goal.join-requires
join-requires g c =
    let p = c.args.self.now.below in
    let w = g.A.QueueAbstraction.bits p in
    let s = c.in_ok-first.ensures in
    (omega (arith, s.0.few, s.1), narrow_below w _ s.0 (append_small w (g.A.QueueAbstraction.code p) (g.met.A.QueueAbstraction.meaning p) _ _ _ _ c.in_ok-append.ensures))

pub returns : goal.returns
returns g c =
    let p = c.args.self.now.below in
    let w = g.A.QueueAbstraction.bits p in
    let code = g.A.QueueAbstraction.code p in
    let s = c.in_ok-first.ensures in
    subst (λ (x : ℕ). Appended (keep_bits w) (keep_code code) c.args.m c.args.c c.args.e (Some x)) (sym c.join.ensures)
    (append_up w code c.args.m c.args.c c.args.e _ _ _ s.0 s.1 s.2 c.in_ok-append.ensures)
