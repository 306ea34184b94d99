-- A walk along the chain of a cell's rules. Assumes nothing.
use Rattle.std.proofs.Common.{◌≡◌, ℕ, ◌+◌, ◌-◌, ◌<◌, List, Option, None, Some, subst, inl, inr, arith}
use Rattle.std.proofs.lemmas.Bool.{cases_lt, cases_eq}
use Rattle.checker.specs.Plan.{cell_at, FirstFrom}
use Rattle.table.specs.Layout.{rules_n}

-- how many rules may still be met
abbrev pub left : ℕ → Option ℕ → ℕ
left n None = 0
left n (Some r) = n - r

module _ (P : ℕ → Type 0) (bs : List ℕ) (x : ℕ) where
  -- P holds of each rule of the cell before the one that is named, which is one, or of all
  abbrev pub Walked : Option ℕ → Type 0
  Walked None = (j : ℕ) → j < rules_n bs → cell_at bs j ≡ x → P j
  Walked (Some r) = (r < rules_n bs) × (cell_at bs r ≡ x) × ((j : ℕ) → j < r → j < rules_n bs → cell_at bs j ≡ x → P j)

  met : (r : ℕ) → Walked (Some r) → P r → (j : ℕ) → j < r + 1 → j < rules_n bs → cell_at bs j ≡ x → P j
  met r w p j l u e = elim (cases_eq r j) [
    | inl s ↦ subst P s p
    | inr ne ↦ w.2 j (omega arith) u e
  ]

  pub walk_on : (r : ℕ) (o : Option ℕ) → Walked (Some r) → P r → FirstFrom bs x (r + 1) o → Walked o
  walk_on r None w p h = λ j l e. elim (cases_lt j (r + 1)) [
    | inl lt ↦ met r w p j lt l e
    | inr ge ↦ absurd (h j ge l l e)
  ]
  walk_on r (Some s) w p h = (
    h.1,
    h.2,
    (λ j l u e. elim (cases_lt j (r + 1)) [
      | inl lt ↦ met r w p j lt u e
      | inr ge ↦ absurd (h.3 j ge l u e)
    ]),
  )
