-- Lists of different numbers. Assumes nothing.
use Rattle.std.specs.Prelude.{ℕ, ◌<◌, cond, List, [], ◌∷◌, ◌==◌, ◌≢◌}
use Rattle.std.specs.List.{AllByRecursion}

-- the number does not stand in the list
abbrev pub Absent : ℕ → List ℕ → Type 0
Absent e L = AllByRecursion (λ (y : ℕ). y ≢ e) L

-- no number stands in the list twice
abbrev pub Apart : List ℕ → Type 0
Apart [] = Unit {0}
Apart (e ∷ L) = Absent e L × Apart L

abbrev pub Below : ℕ → List ℕ → Type 0
Below m L = AllByRecursion (λ (y : ℕ). y < m) L

-- the list without the number
abbrev pub without : ℕ → List ℕ → List ℕ
without e [] = []
without e (f ∷ L) = cond (f == e) (without e L) (f ∷ without e L)
