-- The positions of a packed list. Assumes nothing.
use Rattle.std.proofs.Common.{◌≡◌, ℕ, zero, suc, ◌+◌, ◌*◌, ◌/◌, ◌%◌, ◌^◌, ◌≤◌, List, [], ◌∷◌, sym, ap, ◌∙◌, mul_comm, arith}
use native.Mathlib.Nat.{div-div-eq-div-mul, zero-div}
use Rattle.abstraction.specs.Distinct.{Below}
use Rattle.list_abstraction.specs.List.{pack}
use Rattle.list_abstraction.specs.Lists.{firsts_below}
use Rattle.list_abstraction.proofs.Places.{pow_place}
use Rattle.list_abstraction.specs.List.{firsts}
use Rattle.abstraction_laws.specs.Codes.{position, ListPositions}

at : (m : ℕ) (L : List ℕ) (i : ℕ) → m ≤ 8 → Below m L → pack L / 2 ^ (4 * i) % 16 ≡ position L i
at m [] i few b = ap (λ (x : ℕ). x % 16) (zero-div (2 ^ (4 * i)))
at m (e ∷ L) zero few b = omega (arith, b.0)
at m (e ∷ L) (suc i) few b =
    let N : ℕ = 16 * pack L + e + 1 in
    let q : N / 16 ≡ pack L = omega (arith, b.0) in
    ap (λ (x : ℕ). N / x % 16) (pow_place i ∙ mul_comm (2 ^ (4 * i)) 16) ∙ ap (λ (x : ℕ). x % 16) (sym (div-div-eq-div-mul N 16 (2 ^ (4 * i))))
    ∙ ap (λ (x : ℕ). x / 2 ^ (4 * i) % 16) q ∙ at m L i few b.1

pub list_positions : ListPositions
list_positions m Q i few o = at m (firsts Q) i few (firsts_below m Q o)
