-- What the inner functions of the check are told and answer. Assumes nothing.
use Rattle.std.specs.Prelude.{◌≡◌, ℕ, ◌+◌, ◌*◌, ◌<◌, List, [], length, Some, None, Ok, Err, Option, Result, slice_index_or}
use Rattle.model.specs.declared.fault.Fault.{Fault}
use Rattle.model.specs.declared.rule.Rule.{Rule}
use Rattle.model.specs.System.{rule_of, machines as machines_of}
use Rattle.closed_sets.specs.Records.{Claim, Record, record_of, local_in, Sound}
use Rattle.closed_sets.specs.Codes.{MaySurprise, MayHold}
use Rattle.table.specs.Layout.{machines_n, rules_n, pattern_offset}
use Rattle.table.specs.Lines.{pattern_line_at}
use Rattle.table.specs.SystemOf.{system_of, number_of}
use Rattle.closed_sets.specs.Judging.{numbers, outside}
use Rattle.checker.specs.declared.held.Held.{Held}
use Rattle.checker.specs.Held.{record_in}
use Rattle.checker.specs.SetFile.{records_n, record_byte, Before}

-- what is held is record k, and it is sound
pub record Judging (T : Claim) (n k : ℕ) (h : Held) : Type 0 where
  pub is : record_in h ≡ record_of T k
  pub sound : Sound T (record_of T k)
  pub machines : h.machines ≡ n

-- what is held lets no machine be surprised
pub record Calm (T : Claim) (n : ℕ) (h : Held) : Type 0 where
  pub machines : h.machines ≡ n
  pub calm : (i e : ℕ) → i < machines_of T.system → e < T.system.events → MaySurprise T (record_in h) i e → ⊥

abbrev pub ListedIn : List Record → Record → Type 0
ListedIn rs r = (k : ℕ) × (k < length rs) × (slice_index_or rs k [] ≡ r)

-- where the record stands, or nothing if it does not
abbrev pub Found : List Record → Record → Option ℕ → Type 0
Found rs r None = ListedIn rs r → ⊥
Found rs r (Some k) = (k < length rs) × (slice_index_or rs k [] ≡ r)

-- x is rule r of the table, which has it and its machine, and that machine is held in the local state that it leads from
pub record Enabled (bs : List ℕ) (h : Held) (r : ℕ) (x : Rule) : Type 0 where
  pub below : r < rules_n bs
  pub is : x ≡ rule_of (system_of bs) r
  pub machine : x.machine < machines_n bs
  pub from : local_in (record_in h) x.machine ≡ x.from

-- what is answered of outcome c of rule r, which leads from record k to record u
abbrev pub Inside : List Record → Record → ℕ → ℕ → ℕ → Result (Unit {0}) Fault → Type 0
Inside rs u k r c (Ok v) = ListedIn rs u
Inside rs u k r c (Err f) = (f ≡ numbers (outside k r c)) × (ListedIn rs u → ⊥)

-- line l is one of pattern n, and record k does not let its condition hold
abbrev pub Keeps : Claim → List ℕ → ℕ → ℕ → ℕ → Type 0
Keeps T bs k n l = (number_of bs l ≡ n) × (MayHold T (record_of T k) (pattern_line_at bs (pattern_offset bs l)).condition → ⊥)

-- in the records every code is good, and they rise
pub record Formed (n : ℕ) (set : List ℕ) (T : Claim) : Type 0 where
  pub sound : (k : ℕ) → k < records_n set → Sound T (record_of T k)
  pub rising : (k : ℕ) → k + 1 < records_n set → Before (9 * n) (record_byte n set k) (record_byte n set (k + 1))
