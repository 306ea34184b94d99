-- What is read out of a code. Assumes nothing.
use Rattle.std.specs.Prelude.{◌≡◌, ℕ, ◌^◌, ◌<◌, List, length, Some, None, Option}
use Rattle.std.specs.Int.RustNames.{count_ones}
use Rattle.model.specs.Queue.{Waits, Bit}
use Rattle.abstraction.specs.Meaning.{Valid, Good}
use Rattle.abstraction.specs.Distinct.{Apart, Below}
use Rattle.list_abstraction.specs.List.{pack, list_code}

-- the list of a good code
pub record Coded (m c : ℕ) (L : List ℕ) : Type 0 where
  pub valid : Valid m 32
  pub below : Below m L
  pub apart : Apart L
  pub packed : pack L ≡ c

-- the mask is that of the list
abbrev pub Marks : ℕ → List ℕ → Type 0
Marks mask L = (e : ℕ) → (Bit mask e → Waits e L) × (Waits e L → Bit mask e)

pub record Seen (m c mask : ℕ) : Type 0 where
  pub list : List ℕ
  pub coded : Coded m c list
  pub low : mask < 2 ^ 8
  pub marks : Marks mask list
  pub count : length list ≡ count_ones mask

abbrev pub Read : ℕ → ℕ → Option ℕ → Type 0
Read m c None = Good 32 list_code m c → ⊥
Read m c (Some mask) = Seen m c mask
