-- The first event of a queue beside a code of the rest. Assumes nothing.
use Rattle.std.specs.Prelude.{◌≡◌, ℕ, ◌+◌, ◌-◌, ◌*◌, ◌/◌, ◌%◌, ◌<◌, min, Bool, cond, ◌&&◌, List, [], ◌∷◌, ◌++◌, map, Some, None, Option, ◌==◌, ◌≢◌, nat_le}
use Rattle.abstraction.specs.Meaning.{Valid}

-- four bits more, up to 255
abbrev pub keep_bits : ℕ → ℕ
keep_bits w = min 255 (w + 4)

-- 0 for the empty queue; else the first event + 1 in the lowest four bits, and above them the code of the rest
abbrev pub keep_code : (ℕ → List ℕ → ℕ) → ℕ → List ℕ → ℕ
keep_code code m [] = 0
keep_code code m (e ∷ Q) = 16 * code m Q + e + 1

-- the code has a first event below m, and codes are in use
abbrev pub begun : ℕ → ℕ → ℕ → Bool
begun w m c = nat_le 1 m && nat_le m 8 && nat_le w 60 && nat_le 1 (c % 16) && nat_le (c % 16) m

-- what is left where e was taken, and the abstraction below removes f and leaves d
abbrev pub kept : ℕ → ℕ × ℕ → ℕ × ℕ
kept e x = (e, 16 * x.1 + x.0 + 1)

-- e is taken and b is the code of the rest: first code 0 is left, if b is the code of the empty queue, then each removal below
abbrev pub keep_taken : (ℕ → List ℕ → ℕ) → (ℕ → ℕ → List (ℕ × ℕ)) → ℕ → ℕ → ℕ → List (ℕ × ℕ)
keep_taken code removals m e b = cond ((code m []) == b) ((e, 0) ∷ []) [] ++ map (kept e) (removals m b)

abbrev pub keep_removals : ℕ → (ℕ → List ℕ → ℕ) → (ℕ → ℕ → List (ℕ × ℕ)) → ℕ → ℕ → List (ℕ × ℕ)
keep_removals w code removals m c = cond (begun (keep_bits w) m c) (keep_taken code removals m (c % 16 - 1) (c / 16)) []

-- a code taken apart into the first event and the code of the rest, wherever that can be done
abbrev pub Split : ℕ → ℕ → ℕ → Option (ℕ × ℕ) → Type 0
Split w m c None = (e b : ℕ) → Valid m w → e < m → c ≢ 16 * b + e + 1
Split w m c (Some x) = Valid m w × (x.0 < m) × (c ≡ 16 * x.1 + x.0 + 1)
