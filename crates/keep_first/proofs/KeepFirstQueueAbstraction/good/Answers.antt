use Rattle.std.proofs.Common.{◌≡◌, ℕ, Bool, false, List, Some, None, Option, Decides, sym, ◌∙◌, rules}
use Rattle.std.proofs.lemmas.Bool.{false≢true}
use Rattle.std.specs.Option.{MatchOption}
use Rattle.abstraction.specs.Meaning.{Good}
use Rattle.keep_first.specs.KeepFirst.{Split, keep_bits, keep_code}
use Rattle.keep_first.specs.Kept.{good_up, good_down, good_parts}
use Rattle.keep_first.proofs.KeepFirstQueueAbstraction.good.Goals as goal

-- whether a code is good, from whether the rest of it is
told : (w : ℕ) (code : ℕ → List ℕ → ℕ) (m c : ℕ) (o : Option (ℕ × ℕ)) (r : Bool) {Q : ℕ × ℕ → Type 0} → (c ≡ 0 → ⊥) → Split (keep_bits w) m c o
    → MatchOption o (r ≡ false) Q → ((x : ℕ × ℕ) → Q x → Decides r (Good w code m x.1)) → Decides r (Good (keep_bits w) (keep_code code) m c)
told w code m c None r z s q f = (λ t. absurd (false≢true (sym q ∙ t)), λ h. absurd (good_parts w code _ _ z s h))
told w code m c (Some x) r z s q f =
    let d = f x q in
    (λ t. good_up w code _ _ _ _ s.0 s.1 s.2 (d.0 t), λ h. d.1 (good_down w code _ _ _ _ s.1 s.2 h))

pub returns : goal.returns
returns g c =
    let p = c.args.self.now.below in
    told (g.A.QueueAbstraction.bits p) (g.A.QueueAbstraction.code p) c.args.m c.args.c c.split.result c.is_some_and.result c.if-c-eq0.false
    c.split.ensures c.is_some_and.ensures (λ x q. search rules)
