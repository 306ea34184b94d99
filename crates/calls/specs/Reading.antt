-- What a line of calls says. Assumes nothing.
use Rattle.std.specs.Prelude.{◌≡◌, ℕ, ◌<◌, List, [], ◌∷◌, ◌++◌, codes, decimal, slice_index_or}
use Rattle.controller.specs.declared.call.Call.{Call}
use Rattle.controller.specs.declared.call.Call.TheVariants.{Fire, Reset, Look}
use Rattle.calls.specs.declared.line.Line.{Line}
use Rattle.calls.specs.declared.line.Line.TheVariants.{Skipped, Capacity, Call as Asked, NotUnderstood}
use Rattle.calls.specs.Numbers.{Writes, WritesTwo}

-- the line is a word and a text of which P holds
pub record After (word : List ℕ) (P : List ℕ → Type 0) (line : List ℕ) : Type 0 where
  pub rest : List ℕ
  pub split : line ≡ word ++ rest
  pub holds : P rest

abbrev pub Asks : List ℕ → Call → Type 0
Asks line (Fire r) = After (codes "fire ") (Writes 65536 r) line
Asks line Reset = line ≡ codes "reset"
Asks line (Look m p) = After (codes "look ") (WritesTwo 256 m p) line

-- a line is skipped if its first byte is #, or it has none
abbrev pub Says : List ℕ → Line → Type 0
Says line Skipped = slice_index_or line 0 35 ≡ 35
Says line (Capacity n) = After (codes "capacity ") (Writes 256 n) line
Says line (Asked call) = Asks line call
Says line NotUnderstood = ⊥

-- a line reads as what it says, and is not understood if it says nothing
abbrev pub Reads : List ℕ → Line → Type 0
Reads line Skipped = Says line Skipped
Reads line (Capacity n) = Says line (Capacity n)
Reads line (Asked call) = Says line (Asked call)
Reads line NotUnderstood = (other : Line) → Says line other → ⊥

-- each line reads as the reading at its place
abbrev pub ReadsAll : List (List ℕ) → List Line → Type 0
ReadsAll [] [] = Unit {0}
ReadsAll [] (x ∷ xs) = ⊥
ReadsAll (line ∷ lines) [] = ⊥
ReadsAll (line ∷ lines) (x ∷ xs) = Reads line x × ReadsAll lines xs

-- a call that numbers of 16 and of 8 bits can name
abbrev pub InRange : Call → Type 0
InRange (Fire r) = r < 65536
InRange Reset = Unit {0}
InRange (Look m p) = (m < 256) × (p < 256)

-- a call with its numbers as they are printed
abbrev pub written : Call → List ℕ
written (Fire r) = codes "fire " ++ decimal r
written Reset = codes "reset"
written (Look m p) = codes "look " ++ (decimal m ++ (32 ∷ decimal p))
