use Rattle.std.proofs.Common.{◌≡◌, ◌⊎◌, ℕ, ◌-◌, ◌*◌, ◌<◌, ◌≤◌}
use Rattle.checker.specs.Held.{record_in}
use Rattle.checker.specs.SetFile.{record_at, record_byte, byte_of, Before, Same}
use Rattle.table.specs.Bytes.{word_at}
use Rattle.checker.proofs.state_set.StateSet.find.Given as goal

abbrev pub invariant-loop-low : goal.invariant-loop-low
invariant-loop-low l =
    (l.low ≤ l.high)
    × (0 < l.reach)
    × (l.low < l.high → (l.low ≤ l.middle) × (l.middle < l.high))
    × (l.high ≤ word_at l.self.bytes.now 10)
    × ((j : ℕ) → j < l.low → Before (9 * l.target.machines) (record_byte l.target.machines l.self.bytes.now j) (byte_of (record_in l.target)))
    × ((j : ℕ) → l.high ≤ j → j < word_at l.self.bytes.now 10 → Before (9 * l.target.machines) (byte_of (record_in l.target)) (record_byte l.target.machines l.self.bytes.now j))
    × (((l.low ≡ 0) × (l.high ≡ word_at l.self.bytes.now 10)) ⊎ ((j : ℕ) → record_at l.target.machines l.self.bytes.now j ≡ record_in l.target → Same (9 * l.target.machines) (record_byte l.target.machines l.self.bytes.now j) (byte_of (record_in l.target))))

abbrev pub decreases-loop-low : goal.decreases-loop-low
decreases-loop-low l = l.high - l.low
