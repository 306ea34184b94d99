-- The removals by their numbers: two for each event that is present. Assumes nothing.
use Rattle.std.proofs.Common.{◌≡◌, ℕ, zero, suc, ◌+◌, ◌/◌, ◌%◌, Bool, true, false, cond, eqb, List, [], ◌∷◌, ◌++◌, sym, refl, ap, ◌∙◌, arith}
use Rattle.std.specs.List.{slice_get, filter, range_with_len}
use Rattle.std.specs.Option.{option_map}
use Rattle.model.specs.Queue.{present}
use Rattle.set_abstraction.specs.Set.{absent, set_from}

-- removal k, if it takes event e
abbrev pub picked : ℕ → ℕ → ℕ → ℕ × ℕ
picked c k e = (e, cond (eqb (k % 2) 0) (absent c e) c)

one : (c e k : ℕ) (b : Bool) (R : List (ℕ × ℕ)) (F : List ℕ) → ((j : ℕ) → slice_get R j ≡ option_map (picked c j) (slice_get F (j / 2)))
    → slice_get (cond b ((e, absent c e) ∷ (e, c) ∷ []) [] ++ R) k ≡ option_map (picked c k) (slice_get (cond b (e ∷ F) F) (k / 2))
one c e k false R F h = h k
one c e zero true R F h = refl
one c e (suc zero) true R F h = refl
one c e (suc (suc k)) true R F h =
    let d : suc (suc k) / 2 ≡ suc (k / 2) = omega arith in
    let p : suc (suc k) % 2 ≡ k % 2 = omega arith in
    h k ∙ ap (λ (y : ℕ). option_map (λ (x : ℕ). (x, cond (eqb y 0) (absent c x) c)) (slice_get F (k / 2))) (sym p)
    ∙ ap (λ (j : ℕ). option_map (picked c (suc (suc k))) (slice_get (e ∷ F) j)) (sym d)

pub picks : (c e n k : ℕ) → slice_get (set_from c e n) k ≡ option_map (picked c k) (slice_get (filter (present c) (range_with_len e n)) (k / 2))
picks c e zero k = refl
picks c e (suc n) k = one c e k (present c e) (set_from c (e + 1) n) (filter (present c) (range_with_len (e + 1) n)) (picks c (e + 1) n)
