-- Numbers in text. Assumes nothing.
use Rattle.std.specs.Prelude.{◌≡◌, ℕ, ◌<◌, List, ◌∷◌, ◌++◌, Option, MatchOption}
use Rattle.std.specs.Str.Parse.{IsNumeral, digits_value}

-- one decimal digit or more and nothing else, with that value below a limit
pub record Writes (limit n : ℕ) (ds : List ℕ) : Type 0 where
  pub digits : IsNumeral 10 ds
  pub is : digits_value 10 ds ≡ n
  pub small : n < limit

-- two such numbers with a blank between them
pub record WritesTwo (limit m n : ℕ) (text : List ℕ) : Type 0 where
  pub first : List ℕ
  pub second : List ℕ
  pub split : text ≡ first ++ (32 ∷ second)
  pub writes_first : Writes limit m first
  pub writes_second : Writes limit n second

-- r is something of which P holds, and nothing only if P holds of nothing
abbrev pub Finds : {X : Type 0} → (X → Type 0) → Option X → Type 0
Finds {X = X} P r = MatchOption r ((x : X) → P x → ⊥) P
