use Rattle.std.proofs.Common.{◌≡◌, ℕ, ◌+◌, ◌-◌, ◌*◌, ◌/◌, ◌%◌, ◌^◌, ◌<◌, ◌≤◌, sym, refl, ap, ◌∙◌, subst, arith, rules}
use lib.Bits.{bit_or}
use Rattle.std.proofs.lemmas.Bool.Decides.{not_from_Decides}
use Rattle.model.specs.Queue.{Bit}
use Rattle.model.proofs.Bitwise.{pow_bit, bit_pow}
use Rattle.list_abstraction.proofs.Prefix.{Far, far_more, far_done, far_next}
use Rattle.list_abstraction.proofs.read.Goals as goal

pub returns-then-not-contains : goal.returns-then-not-contains
returns-then-not-contains c g =
    let v = c.if-not-valid.ensures.0 refl in
    let (e, r, p, l, _) = far_next c.args.m c.args.c v _ _ c.loop-rest.invariant g c.loop-rest-test.true in
    let few = v.few in
    let k : 1 ≤ c.loop-rest.rest % 16 = omega arith in
    let u : c.loop-rest.rest % 16 ≤ c.args.m = omega arith in
    search rules

-- the mask of one event that stands in a mask
module _ (mask one e : ℕ) (o : one ≡ 2 ^ e) where
  one_in : ((f : ℕ) → Bit one f → Bit mask f) → Bit mask e
  one_in h = h e (subst (λ (x : ℕ). Bit x e) (sym o) (pow_bit e))

  in_one : Bit mask e → (f : ℕ) → Bit one f → Bit mask f
  in_one b f h = subst (Bit mask) (sym (bit_pow e f (subst (λ (x : ℕ). Bit x f) o h))) b

pub returns-then-within : goal.returns-then-within
returns-then-within c g =
    let v = c.if-not-valid.ensures.0 refl in
    let (e, r, p, l, n) = far_next c.args.m c.args.c v _ _ c.loop-rest.invariant g c.loop-rest-test.true in
    let q : c.loop-rest.rest % 16 - 1 ≡ e = omega arith in
    let o : c.bit-one.result ≡ 2 ^ e = c.bit-one.ensures.event (omega (arith, l, q, v.few)) ∙ ap (λ (x : ℕ). 2 ^ x) q in
    n (one_in _ _ e o (c.if-within.ensures.0 refl))

pub loop-rest-preserved : goal.loop-rest-preserved
loop-rest-preserved c =
    let v = c.if-not-valid.ensures.0 refl in
    let rest = c.loop-rest.rest in
    let e : ℕ = rest % 16 - 1 in
    let r : (1 ≤ rest % 16) × (rest % 16 ≤ c.args.m) = search rules in
    let p : rest ≡ 16 * (rest / 16) + e + 1 = omega (arith, r.0) in
    let l : e < c.args.m = omega (arith, r.0, r.1) in
    let f = subst (λ (x : ℕ). Far c.args.m c.args.c x c.loop-rest.mask) p c.loop-rest.invariant in
    let o : c.bit-one.result ≡ 2 ^ e = c.bit-one.ensures.event (omega (arith, l, v.few)) in
    let n : Bit c.loop-rest.mask e → ⊥ = λ b. not_from_Decides _ c.within.ensures c.if-within.false (in_one _ _ e o b) in
    subst (λ (x : ℕ). Far c.args.m c.args.c (rest / 16) (bit_or c.loop-rest.mask x)) (sym o)
    (far_more c.args.m c.args.c v (rest / 16) c.loop-rest.mask e f l n)

pub returns : goal.returns
returns c =
    let v = c.if-not-valid.ensures.0 refl in
    far_done c.args.m c.args.c v _ (subst (λ (x : ℕ). Far c.args.m c.args.c x c.loop-rest.mask) c.loop-rest-test.false c.loop-rest.invariant)
