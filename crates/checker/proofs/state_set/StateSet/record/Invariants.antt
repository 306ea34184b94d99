use Rattle.std.proofs.Common.{◌≡◌, ℕ, ◌+◌, ◌*◌, ◌<◌, length, get_or}
use Rattle.checker.proofs.Holding.{blank}
use Rattle.checker.specs.Held.{entry_of}
use Rattle.checker.specs.SetFile.{long_at}
use Rattle.checker.proofs.state_set.StateSet.record.Given as goal

abbrev pub invariant-loop-i : goal.invariant-loop-i
invariant-loop-i l = (length l.entry-items ≡ l.n) × ((j : ℕ) → j < l.i → entry_of (get_or l.entry-items j blank) ≡ (get_or l.self.bytes.now (l.start + 9 * j) 0, long_at l.self.bytes.now (l.start + 9 * j + 1)))
