-- The numbers that the calls compute, and what the list abstraction allows. Assumes nothing.
use Rattle.std.proofs.Common.{◌≡◌, ℕ, zero, suc, ◌+◌, ◌*◌, ◌/◌, ◌%◌, ◌^◌, ◌<◌, ◌≤◌, Bool, cond, List, [], ◌∷◌, ◌++◌, length, Some, None, Decides, sym, refl, ap, ◌∙◌, subst, inl, inr, mul_assoc, mul_comm, arith}
use native.Mathlib.Nat.{div-div-eq-div-mul}
use lib.Arith.{mod-mul}
use Rattle.std.specs.List.{slice_get}
use Rattle.std.proofs.lemmas.Nat.{pow_pos, pow-add}
use Rattle.std.proofs.lemmas.List.{length_push}
use Rattle.std.proofs.lemmas.Bool.{cases_eq}
use Rattle.std.proofs.lemmas.Bool.Decides.{Decides-like}
use Rattle.model.specs.declared.queue.Front.{Front}
use Rattle.model.specs.Queue.{Over, Waits, Bit, Covers, Begins}
use Rattle.abstraction.specs.Meaning.{Allowed, Appended}
use Rattle.abstraction.proofs.Nth.{nth_map, nth_map_none}
use Rattle.abstraction.specs.Distinct.{Below, without}
use Rattle.abstraction.proofs.Distinct.{without_same, without_other, below_over, absent_not, apart_push, few_below, all_push}
use Rattle.list_abstraction.specs.List.{firsts, pack, insertions, list_code}
use Rattle.list_abstraction.specs.Read.{Coded, Marks}
use Rattle.list_abstraction.specs.Lists.{firsts_below, firsts_same, pack_same, pack_below, added, firsts_append, absent_has, waits_has}
use Rattle.list_abstraction.specs.Meaning.{coded_good}

pub pow_place : (n : ℕ) → 2 ^ (4 * suc n) ≡ 2 ^ (4 * n) * 16
pow_place n = let p : 4 * suc n ≡ 4 * n + 4 = omega arith in ap (λ (x : ℕ). 2 ^ x) p ∙ pow-add 2 (4 * n) 4

pub pack_add : (L : List ℕ) (e : ℕ) → pack (L ++ e ∷ []) ≡ pack L + (e + 1) * 2 ^ (4 * length L)
pack_add [] e = omega arith
pack_add (f ∷ L) e =
    let h = pack_add L e in
    let a : (e + 1) * 2 ^ (4 * suc (length L)) ≡ (e + 1) * 2 ^ (4 * length L) * 16 = ap (λ (x : ℕ). (e + 1) * x) (pow_place (length L)) ∙ sym (mul_assoc (e + 1) (2 ^ (4 * length L)) 16) in
    omega (arith, h, a)

-- the code with e put in at place j
pub insertions_pack : (m e : ℕ) (L : List ℕ) (j : ℕ) → m ≤ 8 → Below m L → j ≤ length L → (F : List ℕ) × (slice_get (insertions e L) j ≡ Some F) × (pack F ≡ (16 * (pack L / 2 ^ (4 * j)) + e + 1) * 2 ^ (4 * j) + pack L % 2 ^ (4 * j))
insertions_pack m e [] zero few b l = (e ∷ [], refl, omega arith)
insertions_pack m e [] (suc j) few b l = absurd (omega arith)
insertions_pack m e (f ∷ L) zero few b l = (e ∷ f ∷ L, refl, omega arith)
insertions_pack m e (f ∷ L) (suc j) few b l =
    let (F, h, p) = insertions_pack m e L j few b.1 (omega arith) in
    let P : ℕ = 2 ^ (4 * j) in
    let N : ℕ = 16 * pack L + f + 1 in
    let a : N / 16 ≡ pack L = omega (arith, b.0) in
    let r : N % 16 ≡ f + 1 = omega (arith, b.0) in
    let d : N / 2 ^ (4 * suc j) ≡ pack L / P = ap (λ (x : ℕ). N / x) (pow_place j ∙ mul_comm P 16) ∙ sym (div-div-eq-div-mul N 16 P) ∙ ap (λ (x : ℕ). x / P) a in
    let s : N % 2 ^ (4 * suc j) ≡ (pack L % P) * 16 + (f + 1) = ap (λ (x : ℕ). N % x) (pow_place j) ∙ mod-mul N {m = P} {c = 16} (pow_pos (4 * j)) (omega arith) ∙ ap (λ (x : ℕ). (x % P) * 16 + N % 16) a ∙ ap (λ (x : ℕ). (pack L % P) * 16 + x) r in
    let X : ℕ = 16 * (pack L / P) + e + 1 in
    let t : (16 * (N / 2 ^ (4 * suc j)) + e + 1) * 2 ^ (4 * suc j) ≡ X * P * 16 = ap (λ (x : ℕ). (16 * x + e + 1) * 2 ^ (4 * suc j)) d ∙ ap (λ (x : ℕ). X * x) (pow_place j) ∙ sym (mul_assoc X P 16) in
    (f ∷ F, nth_map (λ (R : List ℕ). f ∷ R) (insertions e L) j F h, omega (arith, p, s, t))

pub insertions_end : (e : ℕ) (L : List ℕ) (j : ℕ) → length L < j → slice_get (insertions e L) j ≡ None
insertions_end e [] zero l = absurd (omega arith)
insertions_end e [] (suc j) l = refl
insertions_end e (f ∷ L) zero l = absurd (omega arith)
insertions_end e (f ∷ L) (suc j) l = nth_map_none (λ (R : List ℕ). f ∷ R) (insertions e L) j (insertions_end e L j (omega arith))

-- a queue holds what its list holds
without_waits : (e f : ℕ) (L : List ℕ) → Waits e (without f L) → Waits e L
without_waits e f [] h = absurd h
without_waits e f (g ∷ L) h = elim (cases_eq g f) [
  | inl p ↦ inr (without_waits e f L (subst (Waits e) (without_same f g L p) h))
  | inr p ↦ (elim (subst (Waits e) (without_other f g L p) h) [ inl q ↦ inl q | inr q ↦ inr (without_waits e f L q) ])
]

waits_without : (e f : ℕ) (L : List ℕ) → (e ≡ f → ⊥) → Waits e L → Waits e (without f L)
waits_without e f [] n h = absurd h
waits_without e f (g ∷ L) n (inl q) = subst (Waits e) (sym (without_other f g L (λ p. n (q ∙ p)))) (inl q)
waits_without e f (g ∷ L) n (inr h) = elim (cases_eq g f) [
  | inl p ↦ subst (Waits e) (sym (without_same f g L p)) (waits_without e f L n h)
  | inr p ↦ subst (Waits e) (sym (without_other f g L p)) (inr (waits_without e f L n h))
]

pub firsts_wait : (e : ℕ) (Q : List ℕ) → Waits e (firsts Q) → Waits e Q
firsts_wait e [] h = h
firsts_wait e (f ∷ Q) (inl p) = inl p
firsts_wait e (f ∷ Q) (inr h) = inr (firsts_wait e Q (without_waits e f (firsts Q) h))

pub wait_firsts : (e : ℕ) (Q : List ℕ) → Waits e Q → Waits e (firsts Q)
wait_firsts e [] h = h
wait_firsts e (f ∷ Q) (inl p) = inl p
wait_firsts e (f ∷ Q) (inr h) = elim (cases_eq e f) [ inl p ↦ inl p | inr p ↦ inr (waits_without e f (firsts Q) p (wait_firsts e Q h)) ]

module _ (m c : ℕ) (L : List ℕ) (k : Coded m c L) where
  -- the list of a queue that has the code
  pub its_list : (Q : List ℕ) → Over m Q → list_code m Q ≡ c → firsts Q ≡ L
  its_list Q o p = pack_same m (firsts Q) L k.valid.few (firsts_below m Q o) k.below (p ∙ sym k.packed)

  pub append_held : (e : ℕ) → e < m → Waits e L → Appended 32 list_code m c e (Some c)
  append_held e l h = (coded_good m c L k, l, to)
    where
      to : (Q : List ℕ) → Over m Q → list_code m Q ≡ c → list_code m (Q ++ e ∷ []) ≡ c
      to Q o p = ap pack (firsts_append e Q ∙ ap (added e) (its_list Q o p) ∙ ap (λ (b : Bool). cond b L (L ++ e ∷ [])) (waits_has e L h)) ∙ k.packed

  pub append_new : (e : ℕ) → e < m → (Waits e L → ⊥) → Appended 32 list_code m c e (Some (c + (e + 1) * 2 ^ (4 * length L)))
  append_new e l n = (coded_good m c L k, l, to)
    where
      to : (Q : List ℕ) → Over m Q → list_code m Q ≡ c → list_code m (Q ++ e ∷ []) ≡ c + (e + 1) * 2 ^ (4 * length L)
      to Q o p =
          ap pack (firsts_append e Q ∙ ap (added e) (its_list Q o p) ∙ ap (λ (b : Bool). cond b L (L ++ e ∷ [])) (absent_has e L (absent_not e L n)))
          ∙ pack_add L e ∙ ap (λ (x : ℕ). x + (e + 1) * 2 ^ (4 * length L)) k.packed

  -- a new event has room
  pub room : (e : ℕ) → e < m → (Waits e L → ⊥) → (length L < 8) × (c + (e + 1) * 2 ^ (4 * length L) < 2 ^ 32)
  room e l n =
      let b = all_push (λ (y : ℕ). y < m) L e k.below l in
      let s = few_below m (L ++ e ∷ []) b (apart_push L e k.apart n) in
      let t = length_push L e in
      let few = k.valid.few in
      let h : length (L ++ e ∷ []) ≤ 8 = omega arith in
      (omega arith, subst (λ (x : ℕ). x < 2 ^ 32) (pack_add L e ∙ ap (λ (x : ℕ). x + (e + 1) * 2 ^ (4 * length L)) k.packed) (pack_below m 8 (L ++ e ∷ []) few b h))

  -- which masks a queue with the code holds
  module _ (seen mask : ℕ) (marks : Marks seen L) where
    part : ((e : ℕ) → Bit mask e → Bit seen e) → (Q : List ℕ) → firsts Q ≡ L → Covers mask Q
    part p Q q e b = firsts_wait e Q (subst (Waits e) (sym q) ((marks e).0 (p e b)))

    part_back : (Q : List ℕ) → firsts Q ≡ L → Covers mask Q → (e : ℕ) → Bit mask e → Bit seen e
    part_back Q q h e b = (marks e).1 (subst (Waits e) q (wait_firsts e Q (h e b)))

    same : firsts L ≡ L
    same = firsts_same L k.apart

    pub list_allows : (front : Front) → Begins front L → (r : Bool) → Decides r ((e : ℕ) → Bit mask e → Bit seen e) → Decides r (Allowed 32 list_code m c front mask)
    list_allows front begin r d = Decides-like r
        (λ p. record { valid = k.valid; queue = L; over = below_over m L k.below; coded = ap pack same ∙ k.packed; begins = begin; covers = part p L same })
        (λ a. part_back a.queue (its_list a.queue a.over a.coded) a.covers) d

  -- the first event of a code that is not 0
  pub first_of : (c ≡ 0 → ⊥) → (e : ℕ) × (R : List ℕ) × (L ≡ e ∷ R) × (e < m) × (c ≡ 16 * pack R + e + 1)
  first_of z = go L refl
    where
      go : (X : List ℕ) → L ≡ X → (e : ℕ) × (R : List ℕ) × (L ≡ e ∷ R) × (e < m) × (c ≡ 16 * pack R + e + 1)
      go [] p = absurd (z (sym k.packed ∙ ap pack p))
      go (e ∷ R) p = (e, R, p, (subst (Below m) p k.below).0, sym k.packed ∙ ap pack p)
