-- The set abstraction: the mask of the events present. Assumes nothing.
use Rattle.std.specs.Prelude.{ℕ, zero, suc, ◌+◌, ◌-◌, ◌^◌, Bool, cond, ◌&&◌, List, [], ◌∷◌, ◌++◌, bit_and, bit_or, nat_le, nat_lt}
use Rattle.model.specs.Queue.{present}

abbrev pub set_code : ℕ → List ℕ → ℕ
set_code m [] = 0
set_code m (e ∷ Q) = bit_or (2 ^ e) (set_code m Q)

-- the mask without the event
abbrev pub absent : ℕ → ℕ → ℕ
absent c e = bit_and c (255 - 2 ^ e)

-- the removals of the n events from e up: each event present leaves the mask without it, then the mask unchanged
abbrev pub set_from : ℕ → ℕ → ℕ → List (ℕ × ℕ)
set_from c e zero = []
set_from c e (suc n) = cond (present c e) ((e, absent c e) ∷ (e, c) ∷ []) [] ++ set_from c (e + 1) n

abbrev pub set_good : ℕ → ℕ → Bool
set_good m c = nat_le 1 m && nat_le m 8 && nat_lt c (2 ^ m)

abbrev pub set_removals : ℕ → ℕ → List (ℕ × ℕ)
set_removals m c = cond (set_good m c) (set_from c 0 m) []
