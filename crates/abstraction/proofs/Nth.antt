-- The element at a place of a list. Assumes nothing.
use Rattle.std.proofs.Common.{◌≡◌, ℕ, zero, suc, ◌+◌, ◌<◌, ◌≤◌, Bool, true, false, cond, ◌⊎◌, List, [], ◌∷◌, ◌++◌, map, drop, length, Some, None, Option, sym, refl, ap, ◌∙◌, inl, inr, arith}
use Rattle.std.specs.List.{slice_get, range_with_len}
use Rattle.std.specs.Option.{option_map}
use Rattle.std.proofs.lemmas.Option.{none-some, slice_get-get_or, slice_get-map}
use Rattle.model.proofs.Counted.{nth_counted, nth_counted_past}
use Rattle.std.proofs.lemmas.Option.{same_Some}
use Rattle.std.proofs.lemmas.List.{length-drop}
use Rattle.std.proofs.lemmas.Bool.{cases_lt}

pub nth_map : {X Y : Type 0} (f : X → Y) (xs : List X) (k : ℕ) (x : X) → slice_get xs k ≡ Some x → slice_get (map f xs) k ≡ Some (f x)
nth_map f xs k x e = slice_get-map f xs k ∙ ap (option_map f) e

pub nth_map_none : {X Y : Type 0} (f : X → Y) (xs : List X) (k : ℕ) → slice_get xs k ≡ None → slice_get (map f xs) k ≡ None
nth_map_none f xs k e = slice_get-map f xs k ∙ ap (option_map f) e

pub nth_map_back : {X Y : Type 0} (f : X → Y) (xs : List X) (k : ℕ) (y : Y) → slice_get (map f xs) k ≡ Some y → (x : X) × (slice_get xs k ≡ Some x) × (f x ≡ y)
nth_map_back f [] k y e = absurd (none-some y e)
nth_map_back f (x ∷ xs) zero y e = (x, refl, same_Some (f x) y e)
nth_map_back f (x ∷ xs) (suc k) y e = nth_map_back f xs k y e

pub nth_counted_back : {X : Type 0} (f : ℕ → X) (n k : ℕ) (x : X) → slice_get (map f (range_with_len 0 n)) k ≡ Some x → (k < n) × (f k ≡ x)
nth_counted_back f n k x e =
    elim (cases_lt k n) [ inl h ↦ (h, same_Some (f k) x (sym (nth_counted f n k h) ∙ e)) | inr h ↦ absurd (none-some x (sym (nth_counted_past f n k h) ∙ e)) ]

-- a list that is there under a test only
pub nth_cond : {X : Type 0} (b : Bool) (xs : List X) (k : ℕ) (x : X) → slice_get (cond b xs []) k ≡ Some x → (b ≡ true) × (slice_get xs k ≡ Some x)
nth_cond true xs k x e = (refl, e)
nth_cond false xs k x e = absurd (none-some x e)

pub nothing : {X : Type 0} (o : Option X) → ((x : X) → o ≡ Some x → ⊥) → None ≡ o
nothing None f = refl
nothing (Some x) f = absurd (f x refl)

-- a list that one element may stand before
pub nth_before : {X : Type 0} (t : Bool) (x : X) (ys : List X) (k : ℕ) (y : X) → slice_get (cond t (x ∷ []) [] ++ ys) k ≡ Some y → ((t ≡ true) × (k ≡ 0) × (x ≡ y)) ⊎ ((j : ℕ) × (slice_get ys j ≡ Some y) × (k ≡ cond t (suc j) j))
nth_before true x ys zero y e = inl (refl, refl, same_Some x y e)
nth_before true x ys (suc k) y e = inr (k, e, refl)
nth_before false x ys k y e = inr (k, e, refl)

pub nth_front : {X : Type 0} (t : Bool) (x : X) (ys : List X) → t ≡ true → slice_get (cond t (x ∷ []) [] ++ ys) 0 ≡ Some x
nth_front true x ys e = refl
nth_front false x ys e = let z : ◌≡◌ {A = ℕ} 0 1 = cc in absurd (omega arith)

pub nth_behind : {X : Type 0} (t : Bool) (x : X) (ys : List X) (k : ℕ) → slice_get (cond t (x ∷ []) [] ++ ys) (cond t (suc k) k) ≡ slice_get ys k
nth_behind true x ys k = refl
nth_behind false x ys k = refl

pub past : {X : Type 0} (xs : List X) (k : ℕ) (d : X) → slice_get xs k ≡ None → length xs ≤ k
past xs k d h = elim (cases_lt k (length xs)) [ inl l ↦ absurd (none-some _ (sym h ∙ slice_get-get_or xs k d l)) | inr l ↦ l ]

-- what stands behind the first k: its first element stands at place k, and nothing, where they were all
pub rest_first : {X : Type 0} (xs : List X) (k : ℕ) (x : X) (ys : List X) → drop k xs ≡ x ∷ ys → (slice_get xs k ≡ Some x) × (ys ≡ drop (k + 1) xs)
rest_first xs zero x ys e = rw e (refl, refl)
rest_first [] (suc k) x ys e = absurd (omega (arith, ap length e))
rest_first (z ∷ xs) (suc k) x ys e = let (h, t) = rest_first xs k x ys e in let p : suc (k + 1) ≡ suc k + 1 = omega arith in (h, t ∙ ap (λ (n : ℕ). drop n (z ∷ xs)) p)

pub rest_none : {X : Type 0} (xs : List X) (k : ℕ) → drop k xs ≡ [] → length xs ≤ k
rest_none xs k e = omega (arith, length-drop k xs, ap length e)
