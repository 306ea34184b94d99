-- A record as the check holds it. Assumes nothing.
use Rattle.std.specs.Prelude.{ℕ, map, take}
use Rattle.closed_sets.specs.Records.{Record}
use Rattle.checker.specs.declared.held.Entry.{Entry}
use Rattle.checker.specs.declared.held.Held.{Held}

abbrev pub entry_of : Entry → ℕ × ℕ
entry_of e = (e.local, e.code)

abbrev pub record_in : Held → Record
record_in h = take h.machines (map entry_of h.entries)
