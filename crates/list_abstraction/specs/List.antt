-- The list abstraction: the first occurrence of each event, in order. Assumes nothing.
use Rattle.std.specs.Prelude.{ℕ, zero, suc, ◌+◌, ◌-◌, ◌*◌, ◌/◌, ◌%◌, Bool, true, false, cond, not, ◌&&◌, ◌||◌, List, [], ◌∷◌, map, ◌==◌, nat_le, nat_lt}
use Rattle.abstraction.specs.Distinct.{without}

-- the first occurrence of each event, in order
abbrev pub firsts : List ℕ → List ℕ
firsts [] = []
firsts (e ∷ Q) = e ∷ without e (firsts Q)

-- four bits for each event, from the lowest, which hold the event + 1
abbrev pub pack : List ℕ → ℕ
pack [] = 0
pack (e ∷ L) = 16 * pack L + e + 1

abbrev pub list_code : ℕ → List ℕ → ℕ
list_code m Q = pack (firsts Q)

-- the events of a code, at most n
abbrev pub unpack : ℕ → ℕ → List ℕ
unpack zero c = []
unpack (suc n) c = cond (c % 16 == 0) [] ((c % 16 - 1) ∷ unpack n (c / 16))

abbrev pub has : ℕ → List ℕ → Bool
has e [] = false
has e (f ∷ L) = e == f || has e L

-- different events below m
abbrev pub listed : ℕ → List ℕ → Bool
listed m [] = true
listed m (e ∷ L) = nat_lt e m && not (has e L) && listed m L

abbrev pub list_good : ℕ → ℕ → Bool
list_good m c = nat_le 1 m && nat_le m 8 && pack (unpack 8 c) == c && listed m (unpack 8 c)

-- the list with e in front of each of its events in turn, then with e last
abbrev pub insertions : ℕ → List ℕ → List (List ℕ)
insertions e [] = (e ∷ []) ∷ []
insertions e (f ∷ L) = (e ∷ f ∷ L) ∷ map (λ (R : List ℕ). f ∷ R) (insertions e L)

-- the first event is taken; left are the others without it, then with it at each place
abbrev pub removals_of : List ℕ → List (ℕ × ℕ)
removals_of [] = []
removals_of (e ∷ L) = map (λ (R : List ℕ). (e, pack R)) (L ∷ insertions e L)

abbrev pub list_removals : ℕ → ℕ → List (ℕ × ℕ)
list_removals m c = cond (list_good m c) (removals_of (unpack 8 c)) []
