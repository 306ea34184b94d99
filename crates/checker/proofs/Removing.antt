-- A walk over the removals of a code, each with its number. Assumes nothing.
use Rattle.std.proofs.Common.{◌≡◌, ℕ, ◌+◌, ◌^◌, ◌<◌, ◌≤◌, List, [], ◌∷◌, drop, length, Some, None, Option, sym, ap, ◌∙◌, subst}
use Rattle.std.proofs.lemmas.Option.{slice_get_within}
use Rattle.std.specs.List.{slice_get}
use Rattle.std.specs.Prelude.{MatchOption}
use Rattle.abstraction.proofs.Nth.{rest_first, rest_none}

module _ (rest next : List (ℕ × ℕ)) (n m : ℕ) where
  -- a step takes the first removal that is left, with its number, or finds none left
  abbrev pub Step : Option (ℕ × (ℕ × ℕ)) → Type 0
  Step r = MatchOption r (((rest ≡ []) × (next ≡ [])) × (m ≡ n)) (λ p. (rest ≡ p.1 ∷ next) × (p.0 ≡ n) × (m ≡ n + 1) × (p.0 + 1 < 2 ^ 64))

  module _ (xs : List (ℕ × ℕ)) (left : rest ≡ drop n xs) where
    -- the removal that a step takes is the one of its number, and the others remain
    pub record Taken (c : ℕ) (x : ℕ × ℕ) : Type 0 where
      pub number : c ≡ n
      pub count : m ≡ n + 1
      pub removal : slice_get xs c ≡ Some x
      pub below : n < length xs
      pub remain : next ≡ drop m xs

    pub step_some : (r : Option (ℕ × (ℕ × ℕ))) {c : ℕ} {x : ℕ × ℕ} → r ≡ Some (c, x) → Step r → Taken c x
    step_some r {c} {x} is step =
        let s = subst Step is step in
        let f = rest_first xs n x next (sym left ∙ s.0) in
        record {
          number = s.1;
          count = s.2;
          removal = subst (λ (z : ℕ). slice_get xs z ≡ Some x) (sym s.1) f.0;
          below = slice_get_within xs n _ f.0;
          remain = f.1 ∙ ap (λ (z : ℕ). drop z xs) (sym s.2);
        }

    pub step_none : (r : Option (ℕ × (ℕ × ℕ))) → r ≡ None → Step r → length xs ≤ n
    step_none r is step = let s = subst Step is step in rest_none xs n (sym left ∙ s.0.0)
