-- What a list of records claims of a system under a queue abstraction. Assumes nothing.
use Rattle.std.specs.Prelude.{◌≡◌, ℕ, ◌<◌, List, [], map, length, get_or, slice_index_or}
use Rattle.model.specs.System.{System, machines, states_of}
use Rattle.model.specs.State.{State, start, IsState}
use Rattle.model.specs.Steps.{Step}
use Rattle.model.specs.Bad.{Bad}
use Rattle.abstraction.specs.Meaning.{Good}

-- by machine: a local state and a code
abbrev pub Record : Type 0
Record = List (ℕ × ℕ)

-- a system, a queue abstraction (its width, codes and removals) and a list of records
pub record Claim : Type 0 where
  pub system : System
  pub width : ℕ
  pub code : ℕ → List ℕ → ℕ
  pub removals : ℕ → ℕ → List (ℕ × ℕ)
  pub records : List Record

abbrev pub local_in : Record → ℕ → ℕ
local_in r i = (get_or r i (0, 0)).0

abbrev pub code_in : Record → ℕ → ℕ
code_in r i = (get_or r i (0, 0)).1

abbrev pub record_of : Claim → ℕ → Record
record_of T k = slice_index_or T.records k []

-- each machine's local state and the code of its queue
abbrev pub codes : Claim → State → Record
codes T s = map (λ x. (x.0, T.code T.system.events x.1)) s

abbrev pub Listed : Claim → Record → Type 0
Listed T r = (k : ℕ) × (k < length T.records) × (record_of T k ≡ r)

-- some record has each machine's local state and the code of its queue
abbrev pub Represented : Claim → State → Type 0
Represented T s = Listed T (codes T s)

-- the start is represented, and every state that is represented is not bad and steps only to states that are
pub record Closed (T : Claim) : Type 0 where
  pub begins : Represented T (start T.system)
  pub safe : (s : State) → IsState T.system s → Represented T s → Bad T.system s → ⊥
  pub stays : (s t : State) → IsState T.system s → Represented T s → Step T.system s t → Represented T t

-- every machine has the local state that the record gives it, and every code is good
pub record Sound (T : Claim) (r : Record) : Type 0 where
  pub entries : length r ≡ machines T.system
  pub locals : (i : ℕ) → i < machines T.system → local_in r i < states_of T.system i
  pub good : (i : ℕ) → i < machines T.system → Good T.width T.code T.system.events (code_in r i)

-- some queues with the record's codes make it so
pub record Lets (T : Claim) (r : Record) (P : State → Type 0) : Type 0 where
  pub state : State
  pub is : IsState T.system state
  pub coded : codes T state ≡ r
  pub so : P state
