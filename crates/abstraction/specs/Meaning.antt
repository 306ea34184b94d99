-- What a queue abstraction means. Assumes nothing.
use Rattle.std.specs.Prelude.{◌≡◌, ℕ, ◌^◌, ◌<◌, ◌≤◌, List, [], ◌∷◌, ◌++◌, Some, None, Option}
use Rattle.std.specs.List.{slice_get}
use Rattle.model.specs.declared.queue.Front.{Front}
use Rattle.model.specs.Queue.{Over, Begins, Covers}

-- there are 1 to 8 events, and codes have at most 60 bits: only then is a code good
pub record Valid (m w : ℕ) : Type 0 where
  pub some : 1 ≤ m
  pub few : m ≤ 8
  pub narrow : w ≤ 60

-- some queue over m events has code c
pub record Good (w : ℕ) (code : ℕ → List ℕ → ℕ) (m c : ℕ) : Type 0 where
  pub valid : Valid m w
  pub queue : List ℕ
  pub over : Over m queue
  pub coded : code m queue ≡ c

-- at least one queue with code c has the front and holds every event of the mask
pub record Allowed (w : ℕ) (code : ℕ → List ℕ → ℕ) (m c : ℕ) (front : Front) (mask : ℕ) : Type 0 where
  pub valid : Valid m w
  pub queue : List ℕ
  pub over : Over m queue
  pub coded : code m queue ≡ c
  pub begins : Begins front queue
  pub covers : Covers mask queue

-- some queue has code d, and with event e put in front of it code c
pub record Removal (w : ℕ) (code : ℕ → List ℕ → ℕ) (m c e d : ℕ) : Type 0 where
  pub valid : Valid m w
  pub event : e < m
  pub queue : List ℕ
  pub over : Over m queue
  pub after : code m queue ≡ d
  pub before : code m (e ∷ queue) ≡ c

-- an answer of append: d is the code of every queue with code c after e has come to its back; no answer, no such queue
abbrev pub Appended : ℕ → (ℕ → List ℕ → ℕ) → ℕ → ℕ → ℕ → Option ℕ → Type 0
Appended w code m c e None = Good w code m c → e < m → ⊥
Appended w code m c e (Some d) = Good w code m c × (e < m) × ((Q : List ℕ) → Over m Q → code m Q ≡ c → code m (Q ++ e ∷ []) ≡ d)

-- what every abstraction owes of its width, its code of a queue and its numbered removals of a code
pub record Meaning (w : ℕ) (code : ℕ → List ℕ → ℕ) (removals : ℕ → ℕ → List (ℕ × ℕ)) : Type 0 where
  -- codes fit the width
  pub small : (m : ℕ) (Q : List ℕ) → Valid m w → Over m Q → code m Q < 2 ^ w
  -- the empty queue's code does not depend on m
  pub start : (m : ℕ) → code m [] ≡ code 1 []
  -- queues with one code have one code after an event has come to their backs
  pub appends : (m e : ℕ) (Q R : List ℕ) → Valid m w → e < m → Over m Q → Over m R → code m Q ≡ code m R → code m (Q ++ e ∷ []) ≡ code m (R ++ e ∷ [])
  -- what stands among the removals is one, nothing is missing, and nothing stands there twice
  pub removed : (m c k e d : ℕ) → slice_get (removals m c) k ≡ Some (e, d) → Removal w code m c e d
  pub removes : (m c e d : ℕ) → Removal w code m c e d → (k : ℕ) × (slice_get (removals m c) k ≡ Some (e, d))
  pub once : (m c k j : ℕ) (x : ℕ × ℕ) → slice_get (removals m c) k ≡ Some x → slice_get (removals m c) j ≡ Some x → k ≡ j
