-- The list abstraction with parameter p, by recursion on the last event, and the list under p layers. Assumes nothing.
use Rattle.std.specs.Prelude.{◌≡◌, ℕ, zero, suc, ◌<◌, ◌≤◌, List, [], ◌∷◌, ◌++◌, length, slice_index}
use Rattle.list_abstraction.specs.List.{pack, list_code}
use Rattle.keep_first.specs.KeepFirst.{keep_code}

-- the event stands in the queue at position p or later
abbrev pub Occurs : ℕ → ℕ → List ℕ → Type 0
Occurs p e P = (j : ℕ) × (p ≤ j) × (j < length P) × (slice_index P j ≡ e)

-- the queue is abstracted to the list: its last event is dropped if it occurs before it, at position p or later, and kept otherwise
pub data Abstracts (p : ℕ) : List ℕ → List ℕ → Type 0 where
  none : Abstracts p [] []
  drops : {P L : List ℕ} {e : ℕ} → Abstracts p P L → Occurs p e P → Abstracts p (P ++ e ∷ []) L
  keeps : {P L : List ℕ} {e : ℕ} → Abstracts p P L → (Occurs p e P → ⊥) → Abstracts p (P ++ e ∷ []) (L ++ e ∷ [])

-- the code of the list abstraction under p layers
abbrev pub layered : ℕ → ℕ → List ℕ → ℕ
layered zero = list_code
layered (suc p) = keep_code (layered p)

-- the queue is abstracted to exactly one list, and the code under p layers packs it
pub record Layered (p m : ℕ) (Q : List ℕ) : Type 0 where
  pub list : List ℕ
  pub abstracts : Abstracts p Q list
  pub only : (L : List ℕ) → Abstracts p Q L → L ≡ list
  pub coded : layered p m Q ≡ pack list

abbrev pub LayersKeepPrefix : Type 0
LayersKeepPrefix = (p m : ℕ) (Q : List ℕ) → Layered p m Q
