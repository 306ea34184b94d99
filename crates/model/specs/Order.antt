-- What can be wrong, in the order in which it counts, and the first that applies. Assumes nothing.
use Rattle.std.specs.Prelude.{◌≡◌, ℕ, ◌<◌, ◌⊎◌, Ok, Err, Result}
use Rattle.model.specs.declared.fault.Fault.{Fault}

infixr 10 ◌then◌
-- one finding; all of one order, then all of another; or those of g 0, g 1, .., up to n of them
pub data Order (F : Type 0) : Type 0 where
  one : F → Order F
  ◌then◌ : Order F → Order F → Order F
  each : ℕ → (ℕ → Order F) → Order F

-- no finding of the order applies
abbrev pub Nothing : {F : Type 0} → (F → Type 0) → Order F → Type 0
Nothing A (one f) = A f → ⊥
Nothing A (x then y) = Nothing A x × Nothing A y
Nothing A (each n g) = (i : ℕ) → i < n → Nothing A (g i)

-- f is the first finding of the order that applies
abbrev pub First : {F : Type 0} → (F → Type 0) → Order F → F → Type 0
First A (one g) f = (f ≡ g) × A g
First A (x then y) f = First A x f ⊎ (Nothing A x × First A y f)
First A (each n g) f = (i : ℕ) × (i < n) × First A (g i) f × ((j : ℕ) → j < i → Nothing A (g j))

-- the fault is that of the first finding that applies
pub record FirstFault {F : Type 0} (A : F → Type 0) (numbers : F → Fault) (o : Order F) (f : Fault) : Type 0 where
  pub finding : F
  pub numbered : f ≡ numbers finding
  pub first : First A o finding

-- what a search through an order answers: nothing applies, or the fault of the first that does
abbrev pub Answered : {F : Type 0} → (F → Type 0) → (F → Fault) → Order F → Result (Unit {0}) Fault → Type 0
Answered A numbers o (Ok u) = Nothing A o
Answered A numbers o (Err f) = FirstFault A numbers o f

-- the same order, of what is made of each finding
abbrev pub under : {F G : Type 0} → (F → G) → Order F → Order G
under m (one f) = one (m f)
under m (x then y) = under m x then under m y
under m (each n g) = each n (λ i. under m (g i))
