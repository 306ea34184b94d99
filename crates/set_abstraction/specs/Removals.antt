-- The removals of the set abstraction. Assumes nothing.
use Rattle.std.specs.Prelude.{◌≡◌, ℕ, zero, suc, ◌+◌, ◌/◌, ◌%◌, ◌^◌, ◌<◌, ◌≤◌, Bool, true, false, cond, ◌⊎◌, List, [], ◌∷◌, ◌++◌, Some, ◌≢◌, bit_or, refl}
use Rattle.std.proofs.Common.{sym, ap, ◌∙◌, subst, inl, inr, lt_of_lt_of_le, arith, pow_mono}
use Rattle.std.specs.List.{slice_get}
use mathlib.Core.Path.{fst_path, snd_path}
use Rattle.std.proofs.lemmas.Bool.{eqb-true, eq-eqb, cases_eq}
use Rattle.std.proofs.lemmas.Bool.Decides.{nat_tests}
use Rattle.std.proofs.lemmas.Option.{none-some, same_Some}
use Rattle.model.specs.Queue.{Bit, present}
use Rattle.abstraction.specs.Meaning.{Removal, Meaning}
use Rattle.abstraction.proofs.Nth.{nth_cond}
use Rattle.model.proofs.Bitwise.{or_left, pow_bit}
use Rattle.set_abstraction.specs.Set.{set_code, absent, set_from, set_good, set_removals}
use Rattle.set_abstraction.specs.Codes.{code_below, queue_of, queue_over, code_queue, code_append, absent_below, with_absent, with_same, absent_apart, before_put}

-- a list that two elements may stand before
module _ {X : Type 0} (a b : X) (ys : List X) where
  pub two_back : (t : Bool) (k : ℕ) (y : X) → slice_get (cond t (a ∷ b ∷ []) [] ++ ys) k ≡ Some y → ((t ≡ true) × (k ≡ 0) × (a ≡ y)) ⊎ (((t ≡ true) × (k ≡ 1) × (b ≡ y)) ⊎ ((j : ℕ) × (slice_get ys j ≡ Some y) × (k ≡ cond t (suc (suc j)) j)))
  two_back true zero y e = inl (refl, refl, same_Some a y e)
  two_back true (suc zero) y e = inr (inl (refl, refl, same_Some b y e))
  two_back true (suc (suc k)) y e = inr (inr (k, e, refl))
  two_back false k y e = inr (inr (k, e, refl))

  pub two_first : (t : Bool) → t ≡ true → slice_get (cond t (a ∷ b ∷ []) [] ++ ys) 0 ≡ Some a
  two_first t e = ap (λ (t : Bool). slice_get (cond t (a ∷ b ∷ []) [] ++ ys) 0) e

  pub two_second : (t : Bool) → t ≡ true → slice_get (cond t (a ∷ b ∷ []) [] ++ ys) 1 ≡ Some b
  two_second t e = ap (λ (t : Bool). slice_get (cond t (a ∷ b ∷ []) [] ++ ys) 1) e

  pub two_rest : (t : Bool) (k : ℕ) → slice_get (cond t (a ∷ b ∷ []) [] ++ ys) (cond t (suc (suc k)) k) ≡ slice_get ys k
  two_rest true k = refl
  two_rest false k = refl

-- what stands in the list
pub from_back : (c e n k x d : ℕ) → slice_get (set_from c e n) k ≡ Some (x, d) → (e ≤ x) × (x < e + n) × Bit c x × ((d ≡ absent c x) ⊎ (d ≡ c))
from_back c e zero k x d h = absurd (none-some _ h)
from_back c e (suc n) k x d h =
    elim (two_back (e, absent c e) (e, c) (set_from c (e + 1) n) (present c e) k (x, d) h) [
      | inl (t, _, p) ↦ (let q = fst_path p in
          (omega arith, omega arith, subst (Bit c) q (eqb-true (c / 2 ^ e % 2) 1 t), inl (sym (snd_path p) ∙ ap (absent c) q)))
      | inr (inl (t, _, p)) ↦ (let q = fst_path p in
          (omega arith, omega arith, subst (Bit c) q (eqb-true (c / 2 ^ e % 2) 1 t), inr (sym (snd_path p))))
      | inr (inr (j, i, _)) ↦ (let r = from_back c (e + 1) n j x d i in (omega (arith, r.0), omega (arith, r.1), r.2, r.3))
    ]

-- where it stands
pub from_absent : (c e n x : ℕ) → e ≤ x → x < e + n → Bit c x → (k : ℕ) × (slice_get (set_from c e n) k ≡ Some (x, absent c x))
from_absent c e zero x l h b = absurd (omega arith)
from_absent c e (suc n) x l h b = elim (cases_eq e x) [
  | inl p ↦ (0, two_first (e, absent c e) (e, c) (set_from c (e + 1) n) (present c e) (eq-eqb (c / 2 ^ e % 2) 1 (subst (Bit c) (sym p) b)) ∙ ap (λ (y : ℕ). Some (y, absent c y)) p)
  | inr p ↦ (let (j, i) = from_absent c (e + 1) n x (omega arith) (omega arith) b in
      (cond (present c e) (suc (suc j)) j, two_rest (e, absent c e) (e, c) (set_from c (e + 1) n) (present c e) j ∙ i))
]

pub from_same : (c e n x : ℕ) → e ≤ x → x < e + n → Bit c x → (k : ℕ) × (slice_get (set_from c e n) k ≡ Some (x, c))
from_same c e zero x l h b = absurd (omega arith)
from_same c e (suc n) x l h b = elim (cases_eq e x) [
  | inl p ↦ (1, two_second (e, absent c e) (e, c) (set_from c (e + 1) n) (present c e) (eq-eqb (c / 2 ^ e % 2) 1 (subst (Bit c) (sym p) b)) ∙ ap (λ (y : ℕ). Some (y, c)) p)
  | inr p ↦ (let (j, i) = from_same c (e + 1) n x (omega arith) (omega arith) b in
      (cond (present c e) (suc (suc j)) j, two_rest (e, absent c e) (e, c) (set_from c (e + 1) n) (present c e) j ∙ i))
]

-- no pair twice
from_once : (m c : ℕ) → m ≤ 8 → c < 2 ^ m → (n e k j x d : ℕ) → e + n ≤ m → slice_get (set_from c e n) k ≡ Some (x, d) → slice_get (set_from c e n) j ≡ Some (x, d) → k ≡ j
from_once m c few l zero e k j x d le h i = absurd (none-some _ h)
from_once m c few l (suc n) e k j x d le h i =
    elim (at k h) [
      | inl (t, z, p) ↦ (elim (at j i) [
        | inl (_, y, _) ↦ z ∙ sym y
        | inr (inl (_, _, q)) ↦ absurd (differ t (snd_path p ∙ sym (snd_path q)))
        | inr (inr (j', i', _)) ↦ absurd (later j' i' (fst_path p))
      ])
      | inr (inl (t, z, p)) ↦ (elim (at j i) [
        | inl (_, _, q) ↦ absurd (differ t (snd_path q ∙ sym (snd_path p)))
        | inr (inl (_, y, _)) ↦ z ∙ sym y
        | inr (inr (j', i', _)) ↦ absurd (later j' i' (fst_path p))
      ])
      | inr (inr (k', h', z)) ↦ (elim (at j i) [
        | inl (_, _, q) ↦ absurd (later k' h' (fst_path q))
        | inr (inl (_, _, q)) ↦ absurd (later k' h' (fst_path q))
        | inr (inr (j', i', y)) ↦ z ∙ ap (λ (v : ℕ). cond (present c e) (suc (suc v)) v) (from_once m c few l n (e + 1) k' j' x d (omega arith) h' i') ∙ sym y
      ])
    ]
  where
    at : (k : ℕ) → slice_get (set_from c e (suc n)) k ≡ Some (x, d) → ((present c e ≡ true) × (k ≡ 0) × (◌≡◌ {A = ℕ × ℕ} (e, absent c e) (x, d))) ⊎ (((present c e ≡ true) × (k ≡ 1) × (◌≡◌ {A = ℕ × ℕ} (e, c) (x, d))) ⊎ ((j : ℕ) × (slice_get (set_from c (e + 1) n) j ≡ Some (x, d)) × (k ≡ cond (present c e) (suc (suc j)) j)))
    at k h = two_back (e, absent c e) (e, c) (set_from c (e + 1) n) (present c e) k (x, d) h

    differ : present c e ≡ true → absent c e ≢ c
    differ t p = absent_apart m c e few l (omega arith) (eqb-true (c / 2 ^ e % 2) 1 t) p

    later : (j : ℕ) → slice_get (set_from c (e + 1) n) j ≡ Some (x, d) → e ≢ x
    later j i p = omega (arith, (from_back c (e + 1) n j x d i).0)

pub set_removed : (m c k e d : ℕ) → slice_get (set_removals m c) k ≡ Some (e, d) → Removal 8 set_code m c e d
set_removed m c k e d h =
    let (t, n) = nth_cond (set_good m c) (set_from c 0 m) k (e, d) h in
    let v : (1 ≤ m) × (m ≤ 8) × (c < 2 ^ m) = grind (arith, nat_tests) in
    let (_, l, b, o) = from_back c 0 m k e d n in
    let le : e < m = omega arith in
    elim o [
      | inl p ↦ made v le (absent c e) (absent_below m c e v.1 v.2 le) (sym p) (with_absent m c e v.1 v.2 le b)
      | inr p ↦ made v le c v.2 (sym p) (with_same m c e v.1 v.2 le b)
    ]
  where
    made : (1 ≤ m) × (m ≤ 8) × (c < 2 ^ m) → e < m → (f : ℕ) → f < 2 ^ m → f ≡ d → bit_or (2 ^ e) f ≡ c → Removal 8 set_code m c e d
    made v le f l p q = record {
      valid = record { some = v.0; few = v.1; narrow = omega arith };
      event = le;
      queue = queue_of m f;
      over = queue_over m m f (omega arith);
      after = code_queue m f l ∙ p;
      before = ap (bit_or (2 ^ e)) (code_queue m f l) ∙ q;
    }

pub set_removes : (m c e d : ℕ) → Removal 8 set_code m c e d → (k : ℕ) × (slice_get (set_removals m c) k ≡ Some (e, d))
set_removes m c e d r =
    let few = r.valid.few in
    let some = r.valid.some in
    let k : set_code m r.queue < 2 ^ m = code_below m r.queue r.over in
    let l : c < 2 ^ m = subst (λ (x : ℕ). x < 2 ^ m) r.before (code_below m (e ∷ r.queue) (r.event, r.over)) in
    let t : set_good m c ≡ true = grind (arith, nat_tests) in
    let b : Bit c e = subst (λ (x : ℕ). Bit x e) r.before (or_left (2 ^ e) (set_code m r.queue) e (pow_bit e)) in
    let le : e < m = r.event in
    elim (before_put m c e few l le (set_code m r.queue) k r.before) [
      | inl p ↦ (let (j, i) = from_absent c 0 m e (omega arith) (omega arith) b in (j, there t j ∙ i ∙ ap (λ (x : ℕ). Some (e, x)) (sym p ∙ r.after)))
      | inr p ↦ (let (j, i) = from_same c 0 m e (omega arith) (omega arith) b in (j, there t j ∙ i ∙ ap (λ (x : ℕ). Some (e, x)) (sym p ∙ r.after)))
    ]
  where
    there : set_good m c ≡ true → (j : ℕ) → slice_get (set_removals m c) j ≡ slice_get (set_from c 0 m) j
    there t j = ap (λ (b : Bool). slice_get (cond b (set_from c 0 m) []) j) t

pub set_once : (m c k j : ℕ) (x : ℕ × ℕ) → slice_get (set_removals m c) k ≡ Some x → slice_get (set_removals m c) j ≡ Some x → k ≡ j
set_once m c k j x h i =
    let (t, n) = nth_cond (set_good m c) (set_from c 0 m) k x h in
    let v : (1 ≤ m) × (m ≤ 8) × (c < 2 ^ m) = grind (arith, nat_tests) in
    from_once m c v.1 v.2 m 0 k j x.0 x.1 (omega arith) n (nth_cond (set_good m c) (set_from c 0 m) j x i).1

pub set_meaning : Meaning 8 set_code set_removals
set_meaning = record {
  small = λ m Q v o. lt_of_lt_of_le (code_below m Q o) (pow_mono v.few);
  start = λ m. refl;
  appends = λ m e Q R v l o u p. code_append m e Q o l ∙ ap (λ (x : ℕ). bit_or x (2 ^ e)) p ∙ sym (code_append m e R u l);
  removed = set_removed;
  removes = set_removes;
  once = set_once;
}
