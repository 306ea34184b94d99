-- Queues of events, front first, and what is asked of one. Assumes nothing.
use Rattle.std.specs.Prelude.{◌≡◌, ℕ, ◌/◌, ◌%◌, ◌^◌, ◌<◌, ◌==◌, Bool, ◌⊎◌, List, [], ◌∷◌}
use Rattle.model.specs.declared.queue.Front.{Front}
use Rattle.model.specs.declared.queue.Front.TheVariants.{Any, Empty, Event}

-- the events of the queue are below m
abbrev pub Over : ℕ → List ℕ → Type 0
Over m [] = Unit {0}
Over m (e ∷ Q) = (e < m) × Over m Q

-- the event waits in the queue
abbrev pub Waits : ℕ → List ℕ → Type 0
Waits e [] = ⊥
Waits e (f ∷ Q) = (e ≡ f) ⊎ Waits e Q

-- bit e of the mask is set
abbrev pub Bit : ℕ → ℕ → Type 0
Bit mask e = mask / 2 ^ e % 2 ≡ 1

-- the same, as a test
abbrev pub present : ℕ → ℕ → Bool
present mask e = mask / 2 ^ e % 2 == 1

-- every event of the mask waits in the queue
abbrev pub Covers : ℕ → List ℕ → Type 0
Covers mask Q = (e : ℕ) → Bit mask e → Waits e Q

-- the queue has that front
abbrev pub Begins : Front → List ℕ → Type 0
Begins Any Q = Unit {0}
Begins Empty [] = Unit {0}
Begins Empty (e ∷ Q) = ⊥
Begins (Event f) [] = ⊥
Begins (Event f) (e ∷ Q) = e ≡ f
