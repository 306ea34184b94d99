-- An abstraction has at most 2 ^ 63 removals of a code, since they are different pairs of bounded numbers. Assumes nothing.
use Rattle.std.proofs.Common.{◌≡◌, ℕ, suc, ◌+◌, ◌*◌, ◌^◌, ◌<◌, ◌≤◌, List, [], ◌∷◌, map, length, Some, refl, ap, ◌∙◌, subst, lt_of_lt_of_le, arith, pow_mono}
use lib.ListN.{length-map}
use Rattle.std.specs.List.{slice_get, AllByRecursion}
use Rattle.abstraction.specs.Meaning.{Meaning}
use Rattle.abstraction.specs.Distinct.{Apart, Below}
use mathlib.Core.Path.{Σ_path}
use Rattle.abstraction.proofs.Nth.{nth_map_back}
use Rattle.abstraction.proofs.Distinct.{few_below}

all_from_nth : {X : Type 0} (P : X → Type 0) (xs : List X) → ((k : ℕ) (x : X) → slice_get xs k ≡ Some x → P x) → AllByRecursion P xs
all_from_nth P [] f = tt
all_from_nth P (x ∷ xs) f = (f 0 x refl, all_from_nth P xs (λ k. f (suc k)))

apart_from_nth : (xs : List ℕ) → ((k j x : ℕ) → slice_get xs k ≡ Some x → slice_get xs j ≡ Some x → k ≡ j) → Apart xs
apart_from_nth [] f = tt
apart_from_nth (x ∷ xs) f = (
  all_from_nth (λ (y : ℕ). y ≡ x → ⊥) xs (λ k y h e. absurd (omega (arith, f 0 (suc k) x refl (h ∙ ap Some e)))),
  apart_from_nth xs (λ k j y h i. let s = f (suc k) (suc j) y h i in omega arith),
)

-- a pair as one number
abbrev packed : ℕ × ℕ → ℕ
packed x = 8 * x.1 + x.0

module _ {w : ℕ} {code : ℕ → List ℕ → ℕ} {removals : ℕ → ℕ → List (ℕ × ℕ)} (law : Meaning w code removals) where
  pub few : (m c : ℕ) → length (removals m c) ≤ 2 ^ 63
  few m c = subst (λ (n : ℕ). n ≤ 2 ^ 63) (length-map (removals m c) packed) (few_below (2 ^ 63) (map packed (removals m c)) bound apart)
    where
      low : (k : ℕ) (x : ℕ × ℕ) → slice_get (removals m c) k ≡ Some x → (x.0 < 8) × (x.1 < 2 ^ 60)
      low k x h =
          let r = law.removed m c k x.0 x.1 h in
          let n = r.valid.narrow in
          let s : code m r.queue < 2 ^ 60 = lt_of_lt_of_le (law.small m r.queue r.valid r.over) (pow_mono n) in
          (omega (arith, r.event, r.valid.few), subst (λ (z : ℕ). z < 2 ^ 60) r.after s)

      bound : Below (2 ^ 63) (map packed (removals m c))
      bound = all_from_nth (λ (y : ℕ). y < 2 ^ 63) (map packed (removals m c)) (λ k y h.
          let (x, n, e) = nth_map_back packed (removals m c) k y h in
          let l = low k x n in
          omega arith)

      apart : Apart (map packed (removals m c))
      apart = apart_from_nth (map packed (removals m c)) (λ k j y h i.
          let (x, n, e) = nth_map_back packed (removals m c) k y h in
          let (z, o, f) = nth_map_back packed (removals m c) j y i in
          let l = low k x n in
          let u = low j z o in
          let s : x ≡ z = Σ_path (omega arith) (omega arith) in
          law.once m c k j z (n ∙ ap Some s) o)
