-- The bytes that stand for the kinds of rule. Assumes nothing.
use Rattle.std.specs.Prelude.{◌≡◌, ℕ, ◌<◌, Result, MatchResult}
use Rattle.table.specs.declared.layout.Kind.{Kind}
use Rattle.table.specs.declared.layout.Kind.TheVariants.{Local, Take, Send}
use Rattle.table.specs.declared.layout.UnknownKind.{UnknownKind}

abbrev pub byte_of : Kind → ℕ
byte_of Local = 0
byte_of Take = 1
byte_of Send = 2

-- the kind that the byte stands for, or the byte where there is none
abbrev pub IsKind : ℕ → Result Kind UnknownKind → Type 0
IsKind b r = MatchResult r (λ kind. byte_of kind ≡ b) (λ e. (e.0 ≡ b) × (2 < b))
