-- An order laid out as a list. Assumes nothing.
use Rattle.std.specs.Prelude.{◌≡◌, ℕ, zero, suc, List, [], ◌∷◌, ◌++◌}
use Rattle.std.specs.List.{AllByRecursion}
use Rattle.model.specs.Order.{Order, one, ◌then◌, each}

-- the lists g 0, g 1, .., n of them, one after another
abbrev pub joined : {F : Type 0} → ℕ → (ℕ → List F) → List F
joined zero g = []
joined (suc n) g = joined n g ++ g n

abbrev pub laid : {F : Type 0} → Order F → List F
laid (one f) = f ∷ []
laid (x then y) = laid x ++ laid y
laid (each n g) = joined n (λ i. laid (g i))

-- nothing in the list applies
abbrev pub NoneIn : {F : Type 0} → (F → Type 0) → List F → Type 0
NoneIn {F} A xs = AllByRecursion (λ (g : F). A g → ⊥) xs

-- f applies, and nothing before it in the list does
pub record FirstIn {F : Type 0} (A : F → Type 0) (xs : List F) (f : F) : Type 0 where
  pub before : List F
  pub after : List F
  pub is : xs ≡ before ++ (f ∷ after)
  pub applies : A f
  pub none : NoneIn A before
