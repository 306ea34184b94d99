-- Lists of different numbers: a list without a number, an element more, and how many fit below a bound. Assumes nothing.
use Rattle.std.proofs.Common.{◌≡◌, ℕ, ◌<◌, ◌≤◌, Bool, true, false, cond, eqb, ◌⊎◌, List, [], ◌∷◌, ◌++◌, length, sym, refl, ap, ◌∙◌, subst, inl, inr, arith}
use Rattle.std.specs.List.{AllByRecursion, IsDistinct, list_any}
use Rattle.std.proofs.lemmas.List.Elements.{All-push, All-from_recursion, recursion_from_All}
use Rattle.std.proofs.lemmas.Bool.{cases_eq, eq-eqb, ne_eqb, eqb-true, or_cases, true≢false}
use Rattle.std.proofs.lemmas.Map.Steps.{length-le_from_distinct_below}
use Rattle.model.specs.Queue.{Over, Waits}
use Rattle.abstraction.specs.Distinct.{Absent, Apart, Below, without}

pub all_push : {X : Type 0} (P : X → Type 0) (xs : List X) (x : X) → AllByRecursion P xs → P x → AllByRecursion P (xs ++ x ∷ [])
all_push P xs x h p = recursion_from_All P (xs ++ x ∷ []) (All-push P xs x (All-from_recursion P xs h) p)

pub without_same : (e f : ℕ) (L : List ℕ) → f ≡ e → without e (f ∷ L) ≡ without e L
without_same e f L p = ap (λ (b : Bool). cond b (without e L) (f ∷ without e L)) (eq-eqb f e p)

pub without_other : (e f : ℕ) (L : List ℕ) → (f ≡ e → ⊥) → without e (f ∷ L) ≡ f ∷ without e L
without_other e f L p = ap (λ (b : Bool). cond b (without e L) (f ∷ without e L)) (ne_eqb f e p)

pub without_absent : (e : ℕ) (L : List ℕ) → Absent e L → without e L ≡ L
without_absent e [] a = refl
without_absent e (f ∷ L) a = without_other e f L a.0 ∙ ap (λ (R : List ℕ). f ∷ R) (without_absent e L a.1)

pub without_all : (P : ℕ → Type 0) (e : ℕ) (L : List ℕ) → AllByRecursion P L → AllByRecursion P (without e L)
without_all P e [] a = tt
without_all P e (f ∷ L) a = elim (eqb f e) as (λ b. AllByRecursion P (cond b (without e L) (f ∷ without e L))) [ true ↦ without_all P e L a.1 | false ↦ (a.0, without_all P e L a.1) ]

pub absent_without : (e : ℕ) (L : List ℕ) → Absent e (without e L)
absent_without e [] = tt
absent_without e (f ∷ L) = elim (cases_eq f e) [
  | inl p ↦ subst (Absent e) (sym (without_same e f L p)) (absent_without e L)
  | inr p ↦ subst (Absent e) (sym (without_other e f L p)) (p, absent_without e L)
]

pub apart_without : (e : ℕ) (L : List ℕ) → Apart L → Apart (without e L)
apart_without e [] a = tt
apart_without e (f ∷ L) a = elim (eqb f e) as (λ b. Apart (cond b (without e L) (f ∷ without e L))) [ true ↦ apart_without e L a.1 | false ↦ (without_all (λ (y : ℕ). y ≡ f → ⊥) e L a.0, apart_without e L a.1) ]

pub below_over : (m : ℕ) (Q : List ℕ) → Below m Q → Over m Q
below_over m [] o = tt
below_over m (e ∷ Q) o = (o.0, below_over m Q o.1)

-- what waits, and what does not
pub waits_present : (e : ℕ) (L : List ℕ) → Waits e L → Absent e L → ⊥
waits_present e [] h a = h
waits_present e (f ∷ L) (inl p) a = a.0 (sym p)
waits_present e (f ∷ L) (inr h) a = waits_present e L h a.1

pub absent_not : (e : ℕ) (L : List ℕ) → (Waits e L → ⊥) → Absent e L
absent_not e [] n = tt
absent_not e (f ∷ L) n = (λ p. n (inl (sym p)), absent_not e L (λ h. n (inr h)))

pub waits_append : (e f : ℕ) (L : List ℕ) → Waits e (L ++ f ∷ []) → Waits e L ⊎ (e ≡ f)
waits_append e f [] (inl p) = inr p
waits_append e f [] (inr h) = absurd h
waits_append e f (g ∷ L) (inl p) = inl (inl p)
waits_append e f (g ∷ L) (inr h) = elim (waits_append e f L h) [ inl i ↦ inl (inr i) | inr p ↦ inr p ]

pub append_waits : (e f : ℕ) (L : List ℕ) → Waits e L ⊎ (e ≡ f) → Waits e (L ++ f ∷ [])
append_waits e f [] (inl h) = absurd h
append_waits e f [] (inr p) = inl p
append_waits e f (g ∷ L) (inl (inl p)) = inl p
append_waits e f (g ∷ L) (inl (inr h)) = inr (append_waits e f L (inl h))
append_waits e f (g ∷ L) (inr p) = inr (append_waits e f L (inr p))

pub apart_push : (L : List ℕ) (e : ℕ) → Apart L → (Waits e L → ⊥) → Apart (L ++ e ∷ [])
apart_push [] e a n = (tt, tt)
apart_push (f ∷ L) e a n = (all_push (λ (y : ℕ). y ≡ f → ⊥) L e a.0 (λ p. n (inl p)), apart_push L e a.1 (λ h. n (inr h)))

apart_distinct : (L : List ℕ) → Apart L → IsDistinct eqb L
unfolding IsDistinct
apart_distinct [] a = tt
apart_distinct (e ∷ L) a = (others L a.0, apart_distinct L a.1)
  where
    others : (R : List ℕ) → Absent e R → AllByRecursion (λ (y : ℕ). eqb e y ≡ false) R
    others [] h = tt
    others (f ∷ R) h = (ne_eqb e f (λ p. h.0 (sym p)), others R h.1)

below_each : (n : ℕ) (L : List ℕ) → Below n L → (q : ℕ) → list_any (eqb q) L ≡ true → q < n
below_each n [] b q h = absurd (true≢false (sym h))
below_each n (f ∷ L) b q h = elim (or_cases (eqb q f) (list_any (eqb q) L) h) [ inl t ↦ omega (arith, b.0, eqb-true q f t) | inr t ↦ below_each n L b.1 q t ]

-- different numbers below n are at most n
pub few_below : (n : ℕ) (L : List ℕ) → Below n L → Apart L → length L ≤ n
few_below n L b a = length-le_from_distinct_below L n (apart_distinct L a) (below_each n L b)
