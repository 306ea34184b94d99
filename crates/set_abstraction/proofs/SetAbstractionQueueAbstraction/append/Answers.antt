use Rattle.std.proofs.Common.{◌≡◌, ℕ, ◌^◌, ◌<◌, Bool, true, false, Decides, sym, refl, ap, ◌∙◌, arith}
use lib.Bits.{bit_or}
use Rattle.std.proofs.lemmas.Bool.{false≢true, ltb-true, lt-ltb}
use Rattle.std.specs.Bool.{then_some}
use Rattle.abstraction.specs.Meaning.{Good, Appended}
use Rattle.set_abstraction.specs.Set.{set_code}
use Rattle.set_abstraction.specs.Codes.{code_append}
use Rattle.set_abstraction.proofs.SetAbstractionQueueAbstraction.append.Goals as goal
use Rattle.set_abstraction.proofs.SetAbstractionQueueAbstraction.append.Goals.{then-good, else-good}

answer : (m c e one : ℕ) (b : Bool) → Decides b (Good 8 set_code m c × (e < m)) → (e < 8 → one ≡ 2 ^ e) → Appended 8 set_code m c e (then_some b (bit_or c one))
answer m c e one true d p =
    let (g, l) = d.0 refl in
    (g, l, λ Q o q. code_append m e Q o l ∙ ap (λ (x : ℕ). bit_or x (2 ^ e)) q ∙ ap (bit_or c) (sym (p (omega (arith, g.valid.few)))))
answer m c e one false d p = λ g l. false≢true (d.1 (g, l))

pub returns : goal.returns
returns c =
    let d : Decides c.if-good.then_some (Good 8 set_code c.args.m c.args.c × (c.args.e < c.args.m)) = elim c.if-good.branch [
      | then-good w ↦ rw w.then_some-is (λ t. (w.if-good.ensures.0 refl, ltb-true _ _ t), λ x. lt-ltb _ _ x.1)
      | else-good w ↦ rw (w.then_some-is, w.if-good.false) (λ t. absurd (false≢true t), λ x. absurd (false≢true (w.if-good.ensures.1 x.0)))
    ] in
    rw c.then_some.ensures (answer c.args.m c.args.c c.args.e _ _ d (λ l. c.from.ensures ∙ c.bit.ensures.event l))
