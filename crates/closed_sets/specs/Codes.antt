-- What a record lets happen, by its codes alone. Assumes nothing.
use Rattle.std.specs.Prelude.{◌≡◌, ℕ, ◌<◌, List, [], ◌∷◌, ◌++◌, Some, slice_set}
use Rattle.std.specs.List.{slice_get, AllByRecursion}
use Rattle.model.specs.Bad.{NoTake, LocalIs, Surprised, Met}
use Rattle.model.specs.Queue.{Over}
use Rattle.model.specs.System.{machines, RuleFits, PatternFits}
use Rattle.model.specs.declared.pattern.Condition.{Condition}
use Rattle.model.specs.declared.queue.Front.{Front}
use Rattle.model.specs.declared.queue.Front.TheVariants.{Event}
use Rattle.model.specs.declared.rule.Action.{Action}
use Rattle.model.specs.declared.rule.Action.TheVariants.{Local, Take, Send}
use Rattle.model.specs.declared.rule.Rule.{Rule}
use Rattle.abstraction.specs.Meaning.{Allowed}
use Rattle.closed_sets.specs.Judging.{Leaves}
use Rattle.closed_sets.specs.Records.{Claim, Record, code_in, local_in, Listed, Sound, Lets}
use Rattle.closed_sets.specs.Theorems.{Means}

abbrev pub AllowedIn : Claim → Record → ℕ → Front → ℕ → Type 0
AllowedIn T r i f mask = Allowed T.width T.code T.system.events (code_in r i) f mask

abbrev pub MaySurprise : Claim → Record → ℕ → ℕ → Type 0
MaySurprise T r i e = AllowedIn T r i (Event e) 0 × NoTake T.system i (local_in r i) e

abbrev pub MayHold : Claim → Record → Condition → Type 0
MayHold T r c = LocalIs c.local (local_in r c.machine) × AllowedIn T r c.machine c.front c.mask

abbrev pub MayMeet : Claim → Record → List Condition → Type 0
MayMeet T r p = AllByRecursion (MayHold T r) p

-- the record with the machine of the rule in its new local state, with code d
abbrev pub moved_in : Rule → ℕ → Record → Record
moved_in x d r = slice_set r x.machine (x.to, d)

abbrev pub sent_in : ℕ → ℕ → Record → Record
sent_in t d r = slice_set r t (local_in r t, d)

-- code d stands for e put at the back of any queue with code c
abbrev pub Appends : Claim → ℕ → ℕ → ℕ → Type 0
Appends T c e d = (Q : List ℕ) → Over T.system.events Q → T.code T.system.events Q ≡ c → T.code T.system.events (Q ++ (e ∷ [])) ≡ d

-- outcome c of the action leads from record r to record q
abbrev pub Leads : Claim → Rule → Action → Record → ℕ → Record → Type 0
Leads T x Local r c q = (c ≡ 0) × (q ≡ moved_in x (code_in r x.machine) r)
Leads T x (Take e) r c q = (d : ℕ) × (slice_get (T.removals T.system.events (code_in r x.machine)) c ≡ Some (e, d)) × (q ≡ moved_in x d r)
Leads T x (Send e t) r c q = (d : ℕ) × (c ≡ 0) × Appends T (code_in r t) e d × (q ≡ sent_in t d (moved_in x (code_in r x.machine) r))

abbrev pub Iff : Type 0 → Type 0 → Type 0
Iff P Q = (P → Q) × (Q → P)

-- what can happen with the record's codes happens to some state with these codes, and the other way round
abbrev pub SurpriseLets : Type 0
SurpriseLets = (T : Claim) → Means T → (r : Record) → Sound T r → (i e : ℕ) → i < machines T.system → Iff (MaySurprise T r i e) (Lets T r (λ s. Surprised T.system s i e))

abbrev pub PatternLets : Type 0
PatternLets = (T : Claim) → Means T → (r : Record) → Sound T r → (p : List Condition) → PatternFits T.system p → Iff (MayMeet T r p) (Lets T r (λ s. Met s p))

abbrev pub OutsideLets : Type 0
OutsideLets = (T : Claim) → Means T → (r : Record) → Sound T r → (x : Rule) → RuleFits T.system x → (c : ℕ) (q : Record) → local_in r x.machine ≡ x.from → Leads T x x.action r c q → Iff (Listed T q → ⊥) (Lets T r (Leaves T r x c))

-- a rule of another local state, or without that outcome, leads nowhere
abbrev pub OutsideNot : Type 0
OutsideNot = (T : Claim) → Means T → (r : Record) → Sound T r → (x : Rule) → RuleFits T.system x → (c : ℕ) → Lets T r (Leaves T r x c) → (local_in r x.machine ≡ x.from) × ((q : Record) × Leads T x x.action r c q)
