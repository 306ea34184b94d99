-- Where hints are kept. Assumes nothing.
use Rattle.std.specs.Prelude.{ℕ, ◌+◌, ◌*◌, ◌%◌}

-- the place of outcome c of rule r
abbrev pub slot_of : ℕ → ℕ → ℕ
slot_of r c = 8 * (r % 256) + c % 8
