-- What the codes of lists and sets look like. Assumes nothing.
use Rattle.std.specs.Prelude.{◌≡◌, ℕ, zero, suc, ◌+◌, ◌*◌, ◌/◌, ◌%◌, ◌^◌, ◌≤◌, List, [], ◌∷◌}
use Rattle.model.specs.Queue.{Over, Waits, Bit}
use Rattle.list_abstraction.specs.List.{firsts, list_code}
use Rattle.set_abstraction.specs.Set.{set_code}

-- what stands at position i: the event + 1, and 0 behind the last
abbrev pub position : List ℕ → ℕ → ℕ
position [] i = 0
position (e ∷ L) zero = e + 1
position (e ∷ L) (suc i) = position L i

-- the four bits from bit 4 * i of a list code are its position i
abbrev pub ListPositions : Type 0
ListPositions = (m : ℕ) (Q : List ℕ) (i : ℕ) → m ≤ 8 → Over m Q → list_code m Q / 2 ^ (4 * i) % 16 ≡ position (firsts Q) i

-- the events of a set code are those that wait
abbrev pub SetMask : Type 0
SetMask = (m : ℕ) (Q : List ℕ) (e : ℕ) → (Bit (set_code m Q) e → Waits e Q) × (Waits e Q → Bit (set_code m Q) e)
