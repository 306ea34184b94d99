use Rattle.std.proofs.Common.{◌≡◌, ℕ, suc, ◌+◌, ◌-◌, ◌<◌, Bool, true, false, cond, List, ◌∷◌, Some, sym, refl, ap, ◌∙◌, arith}
use Rattle.std.specs.List.{slice_get, filter, range_with_len}
use Rattle.std.proofs.lemmas.Bool.{cond-true, cond-false}
use Rattle.model.specs.Queue.{present}
use Rattle.set_abstraction.proofs.nth_event.Goals as goal
use Rattle.set_abstraction.proofs.nth_event.Goals.{then-has+else-left-eq0, else-has}

-- the events of the set from e up
from : ℕ → ℕ → ℕ → List ℕ
from m c e = filter (present c) (range_with_len e (m - e))

-- one event more
step : (m c e k : ℕ) → e < m → slice_get (from m c e) k ≡ slice_get (cond (present c e) (e ∷ from m c (e + 1)) (from m c (e + 1))) k
unfolding from
step m c e k l = let p : m - e ≡ suc (m - (e + 1)) = omega arith in ap (λ (n : ℕ). slice_get (filter (present c) (range_with_len e n)) k) p

here : (e : ℕ) (F : List ℕ) (t : Bool) → t ≡ true → slice_get (cond t (e ∷ F) F) 0 ≡ Some e
here e F t p = ap (λ (t : Bool). slice_get (cond t (e ∷ F) F) 0) p

later : (e k : ℕ) (F : List ℕ) (t : Bool) → slice_get (cond t (e ∷ F) F) (cond t (suc k) k) ≡ slice_get F k
later e k F true = refl
later e k F false = refl

pub loop-e-init : goal.loop-e-init
loop-e-init c = let z : c.args.m ≡ c.args.m - 0 = omega arith in ap (λ (n : ℕ). slice_get (filter (present c.args.c) (range_with_len 0 n)) c.args.n) z

pub returns-then-left-eq0 : goal.returns-then-left-eq0
unfolding from
returns-then-left-eq0 c =
    let x = c.args.c in
    let e = c.loop-e.e in
    sym (c.loop-e.invariant ∙ step c.args.m x e c.loop-e.left c.loop-e-test.true
    ∙ ap (slice_get (cond (present x e) (e ∷ from c.args.m x (e + 1)) (from c.args.m x (e + 1)))) c.if-left-eq0.true
    ∙ here e (from c.args.m x (e + 1)) (present x e) (sym c.has.ensures ∙ c.if-has.true))

pub loop-e-preserved : goal.loop-e-preserved
unfolding from
loop-e-preserved c =
    let x = c.args.c in
    let e = c.loop-e.e in
    let k : c.loop-e.left ≡ cond (present x e) (suc c.if-has.left) c.if-has.left = elim c.if-has.branch [
      | then-has+else-left-eq0 w ↦ (let n : c.loop-e.left ≡ suc c.if-has.left = omega (arith, w.left-is, w.if-left-eq0.false) in n ∙ sym (cond-true _ _ _ (sym c.has.ensures ∙ w.if-has.true)))
      | else-has w ↦ sym w.left-is ∙ sym (cond-false _ _ _ (sym c.has.ensures ∙ w.if-has.false))
    ] in
    c.loop-e.invariant ∙ step c.args.m x e c.loop-e.left c.loop-e-test.true
    ∙ ap (slice_get (cond (present x e) (e ∷ from c.args.m x (e + 1)) (from c.args.m x (e + 1)))) k
    ∙ later e c.if-has.left (from c.args.m x (e + 1)) (present x e)

pub returns : goal.returns
returns c =
    let z : c.args.m - c.loop-e.e ≡ 0 = omega (arith, c.loop-e-test.false) in
    sym (c.loop-e.invariant ∙ ap (λ (n : ℕ). slice_get (filter (present c.args.c) (range_with_len c.loop-e.e n)) c.loop-e.left) z)
