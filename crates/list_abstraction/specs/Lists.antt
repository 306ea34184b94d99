-- First occurrences: lists of different events. Assumes nothing.
use Rattle.std.specs.Prelude.{◌≡◌, ℕ, zero, suc, ◌+◌, ◌-◌, ◌*◌, ◌/◌, ◌%◌, ◌^◌, ◌<◌, ◌≤◌, Bool, true, false, cond, not, ◌&&◌, ◌||◌, ◌⊎◌, List, [], ◌∷◌, ◌++◌, length, Some, ◌==◌, ◌≢◌, nat_lt, refl}
use Rattle.std.proofs.Common.{sym, ap, ◌∙◌, subst, append-nil, inl, inr, arith}
use Rattle.std.specs.List.{slice_get, AllByRecursion}
use Rattle.std.proofs.lemmas.Bool.{cases_Bool, cases_eq, eqb-true, eqb-false, eq-eqb, ne_eqb, and_parts, and_from, lt-ltb, ltb-true, not-true, not_from_false, or_cases, or_parts, or_right, or_from, false≢true}
use Rattle.std.proofs.lemmas.Option.{none-some, same_Some}
use Rattle.model.specs.Queue.{Over, Waits}
use Rattle.abstraction.proofs.Nth.{nth_map, nth_map_back}
use Rattle.abstraction.specs.Distinct.{Absent, Apart, Below, without}
use Rattle.abstraction.proofs.Distinct.{without_same, without_other, without_absent, without_all, absent_without, apart_without, waits_present}
use Rattle.list_abstraction.specs.List.{firsts, pack, unpack, has, listed, insertions}

pub firsts_apart : (Q : List ℕ) → Apart (firsts Q)
firsts_apart [] = tt
firsts_apart (e ∷ Q) = (absent_without e (firsts Q), apart_without e (firsts Q) (firsts_apart Q))

pub firsts_below : (m : ℕ) (Q : List ℕ) → Over m Q → Below m (firsts Q)
firsts_below m [] o = tt
firsts_below m (e ∷ Q) o = (o.0, without_all (λ (y : ℕ). y < m) e (firsts Q) (firsts_below m Q o.1))

-- a list of different events is its own list of first occurrences
pub firsts_same : (L : List ℕ) → Apart L → firsts L ≡ L
firsts_same [] a = refl
firsts_same (e ∷ L) a = ap (λ (R : List ℕ). e ∷ without e R) (firsts_same L a.1) ∙ ap (λ (R : List ℕ). e ∷ R) (without_absent e L a.0)

-- the code tells the list
pub pack_same : (m : ℕ) (L R : List ℕ) → m ≤ 8 → Below m L → Below m R → pack L ≡ pack R → L ≡ R
pack_same m [] [] few a b p = refl
pack_same m [] (f ∷ R) few a b p = absurd (omega arith)
pack_same m (e ∷ L) [] few a b p = absurd (omega arith)
pack_same m (e ∷ L) (f ∷ R) few a b p =
    let x : e ≡ f = omega (arith, a.0, b.0) in
    let y : pack L ≡ pack R = omega (arith, a.0, b.0) in
    let z : L ≡ R = pack_same m L R few a.1 b.1 y in
    cc

pub pack_below : (m n : ℕ) (L : List ℕ) → m ≤ 8 → Below m L → length L ≤ n → pack L < 16 ^ n
pack_below m n [] few a l = native.Mathlib.Nat.one-le-pow n 16 (omega arith)
pack_below m zero (e ∷ L) few a l = absurd (omega arith)
pack_below m (suc n) (e ∷ L) few a l =
    let h = pack_below m n L few a.1 (omega arith) in
    let s : 16 ^ suc n ≡ 16 ^ n * 16 = native.Mathlib.Nat.pow-suc 16 n in
    omega (arith, a.0)

pub unpack_pack : (m n : ℕ) (L : List ℕ) → m ≤ 8 → Below m L → length L ≤ n → unpack n (pack L) ≡ L
unpack_pack m zero [] few a l = refl
unpack_pack m zero (e ∷ L) few a l = absurd (omega arith)
unpack_pack m (suc n) [] few a l = refl
unpack_pack m (suc n) (e ∷ L) few a l =
    let c : ℕ = 16 * pack L + e + 1 in
    let z : (c % 16 ≢ 0) = λ q. omega (arith, a.0) in
    let p : c % 16 - 1 ≡ e = omega (arith, a.0) in
    let q : c / 16 ≡ pack L = omega (arith, a.0) in
    ap (λ (b : Bool). cond b [] ((c % 16 - 1) ∷ unpack n (c / 16))) (ne_eqb (c % 16) 0 z)
    ∙ ap (λ (x : ℕ). x ∷ unpack n (c / 16)) p
    ∙ ap (λ (x : ℕ). e ∷ unpack n x) q
    ∙ ap (λ (R : List ℕ). e ∷ R) (unpack_pack m n L few a.1 (omega arith))

-- the tests
pub has_absent : (e : ℕ) (L : List ℕ) → has e L ≡ false → Absent e L
has_absent e [] h = tt
has_absent e (f ∷ L) h = let p = or_parts (e == f) (has e L) h in (λ q. eqb-false e f p.0 (sym q), has_absent e L p.1)

pub absent_has : (e : ℕ) (L : List ℕ) → Absent e L → has e L ≡ false
absent_has e [] a = refl
absent_has e (f ∷ L) a = or_from (e == f) (has e L) (ne_eqb e f (λ q. a.0 (sym q))) (absent_has e L a.1)

pub has_waits : (e : ℕ) (L : List ℕ) → has e L ≡ true → Waits e L
has_waits e [] h = absurd (false≢true h)
has_waits e (f ∷ L) h = elim (or_cases (e == f) (has e L) h) [ inl p ↦ inl (eqb-true e f p) | inr p ↦ inr (has_waits e L p) ]

pub waits_has : (e : ℕ) (L : List ℕ) → Waits e L → has e L ≡ true
waits_has e L h = elim (cases_Bool (has e L)) [ inl t ↦ t | inr t ↦ absurd (waits_present e L h (has_absent e L t)) ]

pub listed_parts : (m : ℕ) (L : List ℕ) → listed m L ≡ true → Below m L × Apart L
listed_parts m [] h = (tt, tt)
listed_parts m (e ∷ L) h =
    let p = and_parts (nat_lt e m && not (has e L)) (listed m L) h in
    let q = and_parts (nat_lt e m) (not (has e L)) p.0 in
    let r = listed_parts m L p.1 in
    ((ltb-true e m q.0, r.0), (has_absent e L (not-true (has e L) q.1), r.1))

pub listed_from : (m : ℕ) (L : List ℕ) → Below m L → Apart L → listed m L ≡ true
listed_from m [] b a = refl
listed_from m (e ∷ L) b a =
    and_from (nat_lt e m && not (has e L)) (listed m L) (and_from (nat_lt e m) (not (has e L)) (lt-ltb e m b.0) (not_from_false (has e L) (absent_has e L a.0))) (listed_from m L b.1 a.1)

-- an event at the back
has_without : (e f : ℕ) (L : List ℕ) → (e ≢ f) → has e (without f L) ≡ has e L
has_without e f [] ne = refl
has_without e f (g ∷ L) ne = elim (cases_eq g f) [
  | inl p ↦ ap (has e) (without_same f g L p) ∙ has_without e f L ne ∙ sym (ap (λ (b : Bool). b || has e L) (ne_eqb e g (λ q. ne (q ∙ p))))
  | inr p ↦ ap (has e) (without_other f g L p) ∙ ap (λ (b : Bool). (e == g) || b) (has_without e f L ne)
]

without_append : (e : ℕ) (L R : List ℕ) → without e (L ++ R) ≡ without e L ++ without e R
without_append e [] R = refl
without_append e (f ∷ L) R = elim (cases_eq f e) [
  | inl p ↦ without_same e f (L ++ R) p ∙ without_append e L R ∙ sym (ap (λ (X : List ℕ). X ++ without e R) (without_same e f L p))
  | inr p ↦ without_other e f (L ++ R) p ∙ ap (λ (X : List ℕ). f ∷ X) (without_append e L R) ∙ sym (ap (λ (X : List ℕ). X ++ without e R) (without_other e f L p))
]

abbrev pub added : ℕ → List ℕ → List ℕ
added e L = cond (has e L) L (L ++ e ∷ [])

pub firsts_append : (e : ℕ) (Q : List ℕ) → firsts (Q ++ e ∷ []) ≡ added e (firsts Q)
firsts_append e [] = refl
firsts_append e (f ∷ Q) = ap (λ (X : List ℕ). f ∷ without f X) (firsts_append e Q) ∙ go (has e (firsts Q)) refl (cases_eq e f)
  where
    go : (b : Bool) → has e (firsts Q) ≡ b → (e ≡ f) ⊎ (e ≢ f) → f ∷ without f (cond b (firsts Q) (firsts Q ++ e ∷ [])) ≡ added e (f ∷ without f (firsts Q))
    go true h (inl p) = sym (ap (λ (b : Bool). cond (b || has e (without f (firsts Q))) (f ∷ without f (firsts Q)) (f ∷ without f (firsts Q) ++ e ∷ [])) (eq-eqb e f p))
    go false h (inl p) =
        ap (λ (X : List ℕ). f ∷ X) (without_append f (firsts Q) (e ∷ []) ∙ ap (λ (X : List ℕ). without f (firsts Q) ++ X) (without_same f e [] p) ∙ append-nil (without f (firsts Q)))
        ∙ sym (ap (λ (b : Bool). cond (b || has e (without f (firsts Q))) (f ∷ without f (firsts Q)) (f ∷ without f (firsts Q) ++ e ∷ [])) (eq-eqb e f p))
    go true h (inr p) =
        sym (ap (λ (b : Bool). cond b (f ∷ without f (firsts Q)) (f ∷ without f (firsts Q) ++ e ∷ [])) (or_right (e == f) (has e (without f (firsts Q))) (has_without e f (firsts Q) p ∙ h)))
    go false h (inr p) =
        ap (λ (X : List ℕ). f ∷ X) (without_append f (firsts Q) (e ∷ []) ∙ ap (λ (X : List ℕ). without f (firsts Q) ++ X) (without_other f e [] p))
        ∙ sym (ap (λ (b : Bool). cond b (f ∷ without f (firsts Q)) (f ∷ without f (firsts Q) ++ e ∷ [])) (or_from (e == f) (has e (without f (firsts Q))) (ne_eqb e f p) (has_without e f (firsts Q) p ∙ h)))

-- e∷Q has the list e∷L exactly when Q has L, or L with e at some place
pub insertions_place : (e : ℕ) (F L : List ℕ) → Apart F → without e F ≡ L → (F ≡ L) ⊎ ((k : ℕ) × (slice_get (insertions e L) k ≡ Some F))
insertions_place e [] L a p = inl p
insertions_place e (f ∷ F) L a p = elim (cases_eq f e) [
  | inl q ↦ inr (front L (sym (without_absent e F (subst (λ (x : ℕ). Absent x F) q a.0)) ∙ sym (without_same e f F q) ∙ p) q)
  | inr q ↦ later (insertions_place e F (without e F) a.1 refl) (sym (without_other e f F q) ∙ p)
]
  where
    front : (L : List ℕ) → F ≡ L → f ≡ e → (k : ℕ) × (slice_get (insertions e L) k ≡ Some (f ∷ F))
    front [] r q = (0, cc)
    front (g ∷ L) r q = (0, cc)

    later : (F ≡ without e F) ⊎ ((k : ℕ) × (slice_get (insertions e (without e F)) k ≡ Some F)) → f ∷ without e F ≡ L → (f ∷ F ≡ L) ⊎ ((k : ℕ) × (slice_get (insertions e L) k ≡ Some (f ∷ F)))
    later (inl r) s = inl (ap (λ (X : List ℕ). f ∷ X) r ∙ s)
    later (inr (k, h)) s = inr (suc k, ap (λ (X : List ℕ). slice_get (insertions e X) (suc k)) (sym s) ∙ nth_map (λ (R : List ℕ). f ∷ R) (insertions e (without e F)) k F h)

pub insertions_without : (e : ℕ) (L : List ℕ) (k : ℕ) (F : List ℕ) → Absent e L → slice_get (insertions e L) k ≡ Some F → without e F ≡ L
insertions_without e [] zero F a h = ap (without e) (sym (same_Some (e ∷ []) F h)) ∙ without_same e e [] refl
insertions_without e [] (suc k) F a h = absurd (none-some F h)
insertions_without e (f ∷ L) zero F a h = ap (without e) (sym (same_Some (e ∷ f ∷ L) F h)) ∙ without_same e e (f ∷ L) refl ∙ without_absent e (f ∷ L) a
insertions_without e (f ∷ L) (suc k) F a h =
    let (R, n, q) = nth_map_back (λ (R : List ℕ). f ∷ R) (insertions e L) k F h in
    ap (without e) (sym q) ∙ without_other e f R a.0 ∙ ap (λ (X : List ℕ). f ∷ X) (insertions_without e L k R a.1 n)

pub insertions_all : (P : ℕ → Type 0) (e : ℕ) (L : List ℕ) (k : ℕ) (F : List ℕ) → P e → AllByRecursion P L → slice_get (insertions e L) k ≡ Some F → AllByRecursion P F
insertions_all P e [] zero F x a h = subst (AllByRecursion P) (same_Some (e ∷ []) F h) (x, tt)
insertions_all P e [] (suc k) F x a h = absurd (none-some F h)
insertions_all P e (f ∷ L) zero F x a h = subst (AllByRecursion P) (same_Some (e ∷ f ∷ L) F h) (x, a)
insertions_all P e (f ∷ L) (suc k) F x a h =
    let (R, n, q) = nth_map_back (λ (R : List ℕ). f ∷ R) (insertions e L) k F h in
    subst (AllByRecursion P) q (a.0, insertions_all P e L k R x a.1 n)

pub insertions_apart : (e : ℕ) (L : List ℕ) (k : ℕ) (F : List ℕ) → Absent e L → Apart L → slice_get (insertions e L) k ≡ Some F → Apart F
insertions_apart e [] zero F a d h = subst Apart (same_Some (e ∷ []) F h) (tt, tt)
insertions_apart e [] (suc k) F a d h = absurd (none-some F h)
insertions_apart e (f ∷ L) zero F a d h = subst Apart (same_Some (e ∷ f ∷ L) F h) (a, d)
insertions_apart e (f ∷ L) (suc k) F a d h =
    let (R, n, q) = nth_map_back (λ (R : List ℕ). f ∷ R) (insertions e L) k F h in
    subst Apart q (insertions_all (λ (y : ℕ). y ≢ f) e L k R (λ p. a.0 (sym p)) d.0 n, insertions_apart e L k R a.1 d.1 n)

pub insertions_longer : (e : ℕ) (L : List ℕ) (k : ℕ) (F : List ℕ) → slice_get (insertions e L) k ≡ Some F → length F ≡ suc (length L)
insertions_longer e [] zero F h = ap length (sym (same_Some (e ∷ []) F h))
insertions_longer e [] (suc k) F h = absurd (none-some F h)
insertions_longer e (f ∷ L) zero F h = ap length (sym (same_Some (e ∷ f ∷ L) F h))
insertions_longer e (f ∷ L) (suc k) F h =
    let (R, n, q) = nth_map_back (λ (R : List ℕ). f ∷ R) (insertions e L) k F h in
    ap length (sym q) ∙ ap suc (insertions_longer e L k R n)

pub insertions_once : (e : ℕ) (L : List ℕ) (k j : ℕ) (F : List ℕ) → Absent e L → slice_get (insertions e L) k ≡ Some F → slice_get (insertions e L) j ≡ Some F → k ≡ j
insertions_once e [] zero zero F a h i = refl
insertions_once e [] zero (suc j) F a h i = absurd (none-some F i)
insertions_once e [] (suc k) j F a h i = absurd (none-some F h)
insertions_once e (f ∷ L) zero zero F a h i = refl
insertions_once e (f ∷ L) zero (suc j) F a h i =
    let (R, n, q) = nth_map_back (λ (R : List ℕ). f ∷ R) (insertions e L) j F i in
    let p : f ∷ R ≡ e ∷ f ∷ L = q ∙ sym (same_Some (e ∷ f ∷ L) F h) in absurd (a.0 cc)
insertions_once e (f ∷ L) (suc k) zero F a h i =
    let (R, n, q) = nth_map_back (λ (R : List ℕ). f ∷ R) (insertions e L) k F h in
    let p : f ∷ R ≡ e ∷ f ∷ L = q ∙ sym (same_Some (e ∷ f ∷ L) F i) in absurd (a.0 cc)
insertions_once e (f ∷ L) (suc k) (suc j) F a h i =
    let (R, n, q) = nth_map_back (λ (R : List ℕ). f ∷ R) (insertions e L) k F h in
    let (S, o, r) = nth_map_back (λ (R : List ℕ). f ∷ R) (insertions e L) j F i in
    let p : f ∷ R ≡ f ∷ S = q ∙ sym r in
    let s : R ≡ S = cc in
    ap suc (insertions_once e L k j S a.1 (n ∙ ap Some s) o)
