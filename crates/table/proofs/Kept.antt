-- The numbers that pass a test, and what is made of each. Assumes nothing.
use Rattle.std.proofs.Common.{◌≡◌, ℕ, zero, suc, ◌+◌, ◌<◌, ◌≤◌, Bool, true, cond, List, ◌∷◌, map, length, filter, Some, sym, ap, subst, inl, inr, arith}
use Rattle.std.specs.List.{range_with_len, slice_get, AllByRecursion}
use Rattle.std.proofs.lemmas.Bool.{cases_Bool, cases_eq}
use Rattle.model.specs.declared.pattern.Condition.{Condition}
use Rattle.model.specs.System.{Rise}

-- a property of a list, by whether its first number passes
pub by_first : {X : Type 0} (f : ℕ → X) (t : ℕ → Bool) (P : List X → Type 0) (a n : ℕ)
    → (t a ≡ true → P (f a ∷ map f (filter t (range_with_len (a + 1) n))))
    → P (map f (filter t (range_with_len (a + 1) n)))
    → P (map f (filter t (range_with_len a (suc n))))
by_first {X} f t P a n kept left =
    elim (cases_Bool (t a)) [
      | inl e ↦ subst (λ (b : Bool). P (map f (cond b (a ∷ filter t (range_with_len (a + 1) n)) (filter t (range_with_len (a + 1) n))))) (sym e) (kept e)
      | inr e ↦ subst (λ (b : Bool). P (map f (cond b (a ∷ filter t (range_with_len (a + 1) n)) (filter t (range_with_len (a + 1) n))))) (sym e) left
    ]

-- what holds of each number that passes
pub all_kept : {X : Type 0} (P : X → Type 0) (f : ℕ → X) (t : ℕ → Bool) (a n : ℕ) → ((j : ℕ) → a ≤ j → j < a + n → t j ≡ true → P (f j)) → AllByRecursion P (map f (filter t (range_with_len a n)))
all_kept P f t a zero h = tt
all_kept P f t a (suc n) h =
    let rest = all_kept P f t (a + 1) n (λ j l u. h j (omega arith) (omega arith)) in
    by_first f t (AllByRecursion P) a n (λ e. (h a (omega arith) (omega arith) e, rest)) rest

-- a number that passes is kept
pub some_kept : {X : Type 0} (f : ℕ → X) (t : ℕ → Bool) (a n j : ℕ) → a ≤ j → j < a + n → t j ≡ true → 1 ≤ length (map f (filter t (range_with_len a n)))
some_kept f t a zero j l u e = absurd (omega arith)
some_kept {X} f t a (suc n) j l u e = elim (cases_eq j a) [
  | inl same ↦ subst (λ (b : Bool). 1 ≤ length (map f (cond b (a ∷ filter t (range_with_len (a + 1) n)) (filter t (range_with_len (a + 1) n))))) (sym (subst (λ (z : ℕ). t z ≡ true) same e)) (omega arith)
  | inr ne ↦ (let rest = some_kept f t (a + 1) n j (omega arith) (omega arith) e in by_first f t (λ (xs : List X). 1 ≤ length xs) a n (λ _. omega arith) rest)
]

-- what is made of a number that passes stands at some place
pub place_kept : {X : Type 0} (f : ℕ → X) (t : ℕ → Bool) (a n j : ℕ) → a ≤ j → j < a + n → t j ≡ true → (k : ℕ) × (slice_get (map f (filter t (range_with_len a n))) k ≡ Some (f j))
place_kept f t a zero j l u e = absurd (omega arith)
place_kept {X} f t a (suc n) j l u e =
    let Listed : List X → Type 0 = λ xs. (k : ℕ) × (slice_get xs k ≡ Some (f j)) in
    elim (cases_eq j a) [
      | inl same ↦ subst
          (λ (b : Bool). Listed (map f (cond b (a ∷ filter t (range_with_len (a + 1) n)) (filter t (range_with_len (a + 1) n)))))
          (sym (subst (λ (z : ℕ). t z ≡ true) same e))
          (0, ap (λ (z : ℕ). Some (f z)) (sym same))
      | inr ne ↦ (let rest = place_kept f t (a + 1) n j (omega arith) (omega arith) e in
          by_first f t Listed a n (λ _. (suc rest.0, rest.1)) rest)
    ]

-- machines that rise from line to line rise in the conditions that are kept
pub rise_kept : (f : ℕ → Condition) (t : ℕ → Bool) (a n low : ℕ)
    → ((j : ℕ) → a ≤ j → j < a + n → t j ≡ true → low ≤ (f j).machine)
    → ((i j : ℕ) → a ≤ i → i < j → j < a + n → t i ≡ true → t j ≡ true → (f i).machine < (f j).machine)
    → Rise low (map f (filter t (range_with_len a n)))
rise_kept f t a zero low bound up = tt
rise_kept f t a (suc n) low bound up =
    by_first f t (Rise low) a n
    (λ e. (
      bound a (omega arith) (omega arith) e,
      rise_kept f t (a + 1) n (suc (f a).machine)
          (λ j l u h. up a j (omega arith) (omega arith) (omega arith) e h)
          (λ i j l lt u h k. up i j (omega arith) lt (omega arith) h k),
    ))
    (rise_kept f t (a + 1) n low
    (λ j l u h. bound j (omega arith) (omega arith) h)
    (λ i j l lt u h k. up i j (omega arith) lt (omega arith) h k))
