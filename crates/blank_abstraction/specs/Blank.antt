-- The blank abstraction. Assumes nothing.
use Rattle.std.specs.Prelude.{ℕ, Bool, cond, ◌&&◌, List, [], map, ◌==◌, nat_le}
use Rattle.std.specs.List.{range_with_len}

-- code 0 for every queue
abbrev pub blank_code : ℕ → List ℕ → ℕ
blank_code m Q = 0

abbrev pub blank_good : ℕ → ℕ → Bool
blank_good m c = nat_le 1 m && nat_le m 8 && c == 0

-- each event upwards, leaving 0
abbrev pub each_event : ℕ → List (ℕ × ℕ)
each_event m = map (λ (e : ℕ). (e, 0)) (range_with_len 0 m)

abbrev pub blank_removals : ℕ → ℕ → List (ℕ × ℕ)
blank_removals m c = cond (blank_good m c) (each_event m) []
