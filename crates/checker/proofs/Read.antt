-- The parts of the system in a table, and of the records in a set. Assumes nothing.
use Rattle.std.proofs.Common.{◌≡◌, ℕ, zero, suc, ◌+◌, ◌*◌, ◌<◌, ◌≤◌, Bool, true, false, cond, List, [], ◌∷◌, map, length, get_or, Decides, filter, sym, refl, ap, ◌∙◌, subst, inl, inr, arith}
use Rattle.std.specs.Bool.{MatchBool}
use Rattle.std.specs.List.{AllByRecursion, AllWithin, HoldsAt, range_with_len}
use Rattle.std.proofs.lemmas.Bool.{cases_Bool, cases_eq}
use Rattle.checker.specs.SetFile.{record_at, records_of, long_at}
use Rattle.table.specs.Bytes.{word_at}
use Rattle.std.proofs.lemmas.List.FromFn.{get_or-range_with_len, length-range_with_len, length-map-range_with_len, get_or-map-range_with_len}

module _ (n : ℕ) (bs : List ℕ) where
  pub records_long : length (records_of n bs) ≡ word_at bs 10
  records_long = length-map-range_with_len (record_at n bs) 0 (word_at bs 10)

  pub record_long : (k : ℕ) → length (record_at n bs k) ≡ n
  record_long k = length-map-range_with_len (λ i. (get_or bs (16 + 9 * n * k + 9 * i) 0, long_at bs (16 + 9 * n * k + 9 * i + 1))) 0 n

  pub record_at_lem : (k : ℕ) → k < word_at bs 10 → get_or (records_of n bs) k [] ≡ record_at n bs k
  record_at_lem k h = get_or-map-range_with_len (record_at n bs) 0 (word_at bs 10) k k [] h (omega arith)

pub decides_true : {P : Type 0} → P → Decides true P
decides_true p = ((λ _. p), (λ _. refl))

pub decides_false : {P : Type 0} → (P → ⊥) → Decides false P
decides_false n = ((λ e. let z : ◌≡◌ {A = ℕ} 0 1 = cc in absurd (omega arith)), (λ p. absurd (n p)))

-- what a test of each number below n tells
pub each_below : (n : ℕ) (P : ℕ → Type 0) (r : Bool) → MatchBool r (AllWithin P (range_with_len 0 n) 0 (length (range_with_len 0 n))) ((k : ℕ) × (k < length (range_with_len 0 n)) × HoldsAt (λ i. P i → ⊥) (range_with_len 0 n) k)
    → MatchBool r ((i : ℕ) → i < n → P i) ((i : ℕ) × (i < n) × (P i → ⊥))
each_below n P true h = λ i l. (let e : get_or (range_with_len 0 n) i 0 ≡ i = omega (arith, get_or-range_with_len 0 n i 0 l) in subst P e (h i 0 (omega arith) (omega (arith, l, length-range_with_len 0 n))))
each_below n P false h =
    let l : h.0 < n = omega (arith, h.1, length-range_with_len 0 n) in
    let e : get_or (range_with_len 0 n) h.0 0 ≡ h.0 = omega (arith, get_or-range_with_len 0 n h.0 0 l) in
    (h.0, l, subst (λ (z : ℕ). P z → ⊥) e (h.2 0))

-- a test decides what follows from its answer
pub decided : {P N Q : Type 0} (r : Bool) → MatchBool r P N → (P → Q) → (N → Q → ⊥) → Decides r Q
decided true h if_so if_not = decides_true (if_so h)
decided false h if_so if_not = decides_false (if_not h)

-- what holds of all that is made of the numbers that pass a test holds of each
pub kept_all : {X : Type 0} (P : X → Type 0) (f : ℕ → X) (t : ℕ → Bool) (a n : ℕ) → AllByRecursion P (map f (filter t (range_with_len a n))) → (j : ℕ) → a ≤ j → j < a + n → t j ≡ true → P (f j)
kept_all P f t a zero all j l u e = absurd (omega arith)
kept_all P f t a (suc n) all j l u e = elim (cases_eq j a) [
  | inl same ↦ subst (λ (z : ℕ). P (f z)) (sym same) (subst (λ (b : Bool). AllByRecursion P (map f (cond b (a ∷ filter t (range_with_len (a + 1) n)) (filter t (range_with_len (a + 1) n))))) (ap t (sym same) ∙ e) all).0
  | inr ne ↦ kept_all P f t (a + 1) n (rest all) j (omega arith) (omega arith) e
]
  where
    rest : AllByRecursion P (map f (cond (t a) (a ∷ filter t (range_with_len (a + 1) n)) (filter t (range_with_len (a + 1) n)))) → AllByRecursion P (map f (filter t (range_with_len (a + 1) n)))
    rest h = elim (cases_Bool (t a)) [
      | inl e ↦ (subst (λ (b : Bool). AllByRecursion P (map f (cond b (a ∷ filter t (range_with_len (a + 1) n)) (filter t (range_with_len (a + 1) n))))) e h).1
      | inr e ↦ subst (λ (b : Bool). AllByRecursion P (map f (cond b (a ∷ filter t (range_with_len (a + 1) n)) (filter t (range_with_len (a + 1) n))))) e h
    ]
