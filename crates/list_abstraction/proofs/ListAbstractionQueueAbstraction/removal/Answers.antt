use Rattle.std.proofs.Common.{◌≡◌, ℕ, suc, ◌+◌, ◌-◌, ◌*◌, ◌/◌, ◌%◌, ◌^◌, ◌<◌, ◌≤◌, List, ◌∷◌, length, Some, sym, ap, ◌∙◌, subst, arith}
use Rattle.std.specs.List.{slice_get}
use Rattle.abstraction.proofs.Nth.{nth_map, nth_map_none}
use Rattle.abstraction.proofs.Distinct.{few_below}
use Rattle.abstraction.proofs.Calls.{no_removal}
use Rattle.std.specs.Int.RustNames.{count_ones}
use Rattle.list_abstraction.specs.List.{pack, insertions, list_removals, removals_of}
use Rattle.list_abstraction.specs.Read.{Seen, Coded}
use Rattle.list_abstraction.specs.Lists.{pack_below, insertions_all, insertions_apart}
use Rattle.list_abstraction.specs.Meaning.{removals_at, list_meaning}
use Rattle.list_abstraction.proofs.Places.{first_of, insertions_pack, insertions_end}
use Rattle.list_abstraction.proofs.ListAbstractionQueueAbstraction.removal.Goals as goal

-- the list of a good code that is not 0
record Parts (m c count : ℕ) : Type 0 where
  first : ℕ
  rest : List ℕ
  coded : Coded m c (first ∷ rest)
  first_is : c % 16 - 1 ≡ first
  rest_is : c / 16 ≡ pack rest
  count_is : count ≡ suc (length rest)
  few : count ≤ 8

parts : (m c mask : ℕ) → Seen m c mask → 1 ≤ c % 16 → Parts m c (count_ones mask)
parts m c mask s o =
    let (e, R, q, l, p) = first_of m c s.list s.coded (λ z. omega (arith, o, z)) in
    let few = s.coded.valid.few in
    record {
      first = e;
      rest = R;
      coded = subst (Coded m c) q s.coded;
      first_is = omega arith;
      rest_is = omega arith;
      count_is = sym s.count ∙ ap length q;
      few = omega (arith, few_below m s.list s.coded.below s.coded.apart, s.count);
    }

pub returns-in_err-listed : goal.returns-in_err-listed
returns-in_err-listed c = c.from_residual.ensures ∙ no_removal list_meaning c.args.m c.args.c c.args.k c.in_err-listed.ensures

at : (m c count k : ℕ) (p : Parts m c count) → slice_get (list_removals m c) k ≡ slice_get (removals_of (p.first ∷ p.rest)) k
at m c count k p = ap (λ (xs : List (ℕ × ℕ)). slice_get xs k) (removals_at m c (p.first ∷ p.rest) p.coded)

pub returns-then-k-eq0 : goal.returns-then-k-eq0
returns-then-k-eq0 c =
    let p = parts _ _ _ c.in_ok-listed.ensures c.in_ok-e.ensures.0 in
    sym (at c.args.m c.args.c _ c.args.k p ∙ ap (slice_get (removals_of (p.first ∷ p.rest))) c.if-k-eq0.true
    ∙ ap (λ (x : ℕ). Some (x, pack p.rest)) (sym p.first_is ∙ sym c.in_ok-e.ensures.1) ∙ ap (λ (x : ℕ). Some (c.in_ok-e.e, x)) (sym p.rest_is))

pub returns-then-k-from : goal.returns-then-k-from
returns-then-k-from c =
    let p = parts _ _ _ c.in_ok-listed.ensures c.in_ok-e.ensures.0 in
    let k : c.args.k ≡ suc (c.args.k - 1) = omega (arith, c.if-k-eq0.false) in
    let l : length p.rest < c.args.k - 1 = omega (arith, c.if-k-from.true, c.from.ensures, p.count_is) in
    sym (at c.args.m c.args.c _ c.args.k p ∙ ap (slice_get (removals_of (p.first ∷ p.rest))) k
    ∙ nth_map_none (λ (R : List ℕ). (p.first, pack R)) (insertions p.first p.rest) (c.args.k - 1) (insertions_end p.first p.rest (c.args.k - 1) l))

-- what is left where the event was put in at place j
record Left (m c count j event wide here : ℕ) (p : Parts m c count) : Type 0 where
  value : (16 * (c / 16 / here) + wide + 1) * here + c / 16 % here < 2 ^ 32
  is : slice_get (list_removals m c) (suc j) ≡ Some (event, (16 * (c / 16 / here) + wide + 1) * here + c / 16 % here)

left : (m c count j event wide here : ℕ) (p : Parts m c count) → j < count → event ≡ c % 16 - 1 → wide ≡ event → here ≡ 2 ^ (4 * j) → Left m c count j event wide here p
left m c count j event wide here p l q u h =
    let e = p.first in
    let R = p.rest in
    let few = p.coded.valid.few in
    let below = p.coded.below in
    let apart = p.coded.apart in
    let (F, n, v) = insertions_pack m e R j few below.1 (omega (arith, p.count_is)) in
    let b = insertions_all (λ (y : ℕ). y < m) e R j F below.0 below.1 n in
    let a = insertions_apart e R j F apart.0 apart.1 n in
    let s : length F ≤ 8 = omega (arith, few_below m F b a) in
    let w : pack F ≡ (16 * (c / 16 / here) + wide + 1) * here + c / 16 % here =
    v ∙ ap (λ (x : ℕ). (16 * (pack R / x) + e + 1) * x + pack R % x) (sym h)
    ∙ ap (λ (x : ℕ). (16 * (x / here) + e + 1) * here + x % here) (sym p.rest_is)
    ∙ ap (λ (x : ℕ). (16 * (c / 16 / here) + x + 1) * here + c / 16 % here) (sym p.first_is ∙ sym q ∙ sym u) in
    record {
      value = subst (λ (x : ℕ). x < 2 ^ 32) w (pack_below m 8 F few b s);
      is = at m c count (suc j) p ∙ nth_map (λ (R : List ℕ). (e, pack R)) (insertions e R) j F n ∙ ap (λ (x : ℕ). Some (x, pack F)) (sym p.first_is ∙ sym q) ∙ ap (λ (x : ℕ). Some (event, x)) w;
    }

there : (c : goal.After-from-2) → Left c.args.m c.args.c (count_ones c.in_ok-listed.listed) (c.args.k - 1) c.in_ok-e.e c.from-2.result c.place-here.result (parts _ _ _ c.in_ok-listed.ensures c.in_ok-e.ensures.0)
there c = left _ _ _ (c.args.k - 1) _ _ _ (parts _ _ _ c.in_ok-listed.ensures c.in_ok-e.ensures.0) (omega (arith, c.if-k-from.false, c.from.ensures, c.if-k-eq0.false)) c.in_ok-e.ensures.1 c.from-2.ensures c.place-here.ensures

pub overflow_mul-left-2 : goal.overflow_mul-left-2
overflow_mul-left-2 c = let t = (there c).value in record { fits = omega arith }

pub overflow_add-left-3 : goal.overflow_add-left-3
overflow_add-left-3 c = let t = (there c).value in record { fits = omega arith }

pub returns : goal.returns
returns c =
    let k : c.args.k ≡ suc (c.args.k - 1) = omega (arith, c.if-k-eq0.false) in
    sym (ap (slice_get (list_removals c.args.m c.args.c)) k ∙ (there c).is)
