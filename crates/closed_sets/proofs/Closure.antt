-- Closed records hold what is reached; and the findings decide whether records are closed. Assumes nothing.
use Rattle.std.proofs.Common.{◌≡◌, ℕ, zero, suc, ◌<◌, Bool, ◌&&◌, eqb, Decides, ◌⊎◌, List, [], ◌∷◌, length, get_or, sym, refl, ap, ◌∙◌, subst, inl, inr, arith, get_or-set_same}
use Rattle.std.proofs.lemmas.List.{get_or-map}
use lib.Pointwise.{pointwise}
use mathlib.Core.Path.{Σ_path, fst_path, snd_path}
use Rattle.std.proofs.lemmas.Bool.{cases_Bool}
use Rattle.std.proofs.lemmas.Bool.Decides.{Decides-and, Decides-eqb, Decides-like, not_from_Decides}
use Rattle.std.proofs.lemmas.Slice.Eq.{slice_eq-Decides}
use Rattle.std.proofs.lemmas.Option.{slice_get_within}
use Rattle.model.proofs.States.{start_is, step_is}
use Rattle.model.specs.Bad.{Bad}
use Rattle.model.specs.Order.{Nothing}
use Rattle.model.specs.Queue.{Over}
use Rattle.model.specs.State.{State, local_at, queue_at, IsState}
use Rattle.model.specs.Steps.{Acts, Step, Reaches, begin, onward}
use Rattle.model.specs.System.{machines, rule_of, WellFormed}
use Rattle.model.specs.declared.rule.Action.{Action}
use Rattle.model.specs.declared.rule.Action.TheVariants.{Local, Take, Send}
use Rattle.closed_sets.specs.Judging.{Numbered, Applies, outcomes, judged}
use Rattle.closed_sets.specs.Records.{Claim, Record, record_of, code_in, codes, Listed, Represented, Closed}
use Rattle.closed_sets.specs.Theorems.{Means, SoundAll, ClosedHolds, FoundNothing, ClosedNothing}

module _ (T : Claim) (p : WellFormed T.system) (c : Closed T) where
  within : (s : State) → Reaches T.system s → IsState T.system s × Represented T s
  within s begin = (start_is T.system p, c.begins)
  within s (onward {s = u} r h) = let b = within u r in (step_is T.system p u s b.0 h, c.stays u s b.0 b.1 h)

pub closed_holds : ClosedHolds
closed_holds T p c s r = let b = within T p c s r in (b.1, c.safe s b.0 b.1)

abbrev same : ℕ × ℕ → ℕ × ℕ → Bool
same a b = eqb a.0 b.0 && eqb a.1 b.1

same_decides : (a b : ℕ × ℕ) → Decides (same a b) (a ≡ b)
same_decides a b = Decides-like (same a b) (λ h. Σ_path h.0 h.1) (λ p. (fst_path p, snd_path p)) (Decides-and (eqb a.0 b.0) (eqb a.1 b.1) (Decides-eqb a.0 b.0) (Decides-eqb a.1 b.1))

pub same_record : (r q : Record) → (r ≡ q) ⊎ (r ≡ q → ⊥)
same_record r q =
    let d : Decides (pointwise same r q) (r ≡ q) = slice_eq-Decides same_decides r q _ refl in
    elim (cases_Bool (pointwise same r q)) [ inl t ↦ inl (d.0 t) | inr f ↦ inr (not_from_Decides _ d f) ]

among : (rs : List Record) (q : Record) → ((k : ℕ) × (k < length rs) × (get_or rs k [] ≡ q)) ⊎ (((k : ℕ) × (k < length rs) × (get_or rs k [] ≡ q)) → ⊥)
among [] q = inr (λ h. omega (arith, h.1))
among (r ∷ rs) q = elim (same_record r q) [
  | inl e ↦ inl (0, omega arith, e)
  | inr n ↦ elim (among rs q) [
    | inl h ↦ inl (suc h.0, omega (arith, h.1), h.2)
    | inr m ↦ inr (λ h. later h.0 n m h.1 h.2)
  ]
]
  where
    later : (k : ℕ) → (r ≡ q → ⊥) → (((k : ℕ) × (k < length rs) × (get_or rs k [] ≡ q)) → ⊥) → k < length (r ∷ rs) → get_or (r ∷ rs) k [] ≡ q → ⊥
    later zero n m l e = n e
    later (suc k) n m l e = m (k, omega arith, e)

pub listed : (T : Claim) (r : Record) → Listed T r ⊎ (Listed T r → ⊥)
listed T r = among T.records r

pub entry_at : (T : Claim) (s : State) (i : ℕ) → i < length s → get_or (codes T s) i (0, 0) ≡ (local_at s i, T.code T.system.events (queue_at s i))
entry_at T s i h = get_or-map (λ (x : ℕ × List ℕ). (x.0, T.code T.system.events x.1)) s i (0, []) (0, 0) h

pub code_at : (T : Claim) (s : State) (i : ℕ) → i < length s → code_in (codes T s) i ≡ T.code T.system.events (queue_at s i)
code_at T s i h = ap (λ (x : ℕ × ℕ). x.1) (entry_at T s i h)

module _ (T : Claim) (law : Means T) (p : WellFormed T.system) (sound : SoundAll T) where
  outcome : (k r : ℕ) (s t : State) → IsState T.system s → k < length T.records → record_of T k ≡ codes T s → r < length T.system.rules → (a : Action) → Acts a (rule_of T.system r) s t
      → (c : ℕ) × (c < outcomes T (record_of T k) (rule_of T.system r) a) × Numbered T a (record_of T k) (rule_of T.system r).machine t c
  outcome k r s t is lk e lr Local h = (0, omega arith, refl)
  outcome k r s t is lk e lr (Send v d) h = (0, omega arith, refl)
  outcome k r s t is lk e lr (Take v) (Q, q, h) =
      let x = rule_of T.system r in
      let m = T.system.events in
      let i = x.machine in
      let lt : i < machines T.system = (p.rules r lr).machine in
      let ls : i < length s = omega (arith, is.entries) in
      let o : Over m (v ∷ Q) = subst (Over m) q (is.queues i lt) in
      let before : T.code m (v ∷ Q) ≡ code_in (record_of T k) i = ap (T.code m) (sym q) ∙ sym (code_at T s i ls) ∙ ap (λ (z : Record). code_in z i) (sym e) in
      let after : T.code m Q ≡ T.code m (queue_at t i) = ap (λ (z : ℕ × List ℕ). T.code m z.1) (sym (get_or-set_same s i (x.to, Q) (0, []) ls)) ∙ ap (λ (z : State). T.code m (queue_at z i)) (sym h) in
      let found = law.removes m (code_in (record_of T k) i) v (T.code m (queue_at t i)) (record { valid = ((sound k lk).good i lt).valid; event = o.0; queue = Q; over = o.1; after = after; before = before }) in
      (found.0, slice_get_within _ found.0 _ found.1, found.1)

  module _ (none : Nothing (Applies T) (judged T)) where
    stays : (s t : State) → IsState T.system s → Represented T s → Step T.system s t → Represented T t
    stays s t is (k, lk, e) (r, lr, m) = elim (listed T (codes T t)) [
      | inl h ↦ h
      | inr n ↦ (let o = outcome k r s t is lk e lr (rule_of T.system r).action m.1 in
          absurd ((none k lk).1.1 r lr o.0 o.1 (record { state = s; is = is; coded = sym e; so = record { to = t; makes = m; numbered = o.2; out = n } })))
    ]

    safe : (s : State) → IsState T.system s → Represented T s → Bad T.system s → ⊥
    safe s is (k, lk, e) (inl (i, v, b)) =
        let o : Over T.system.events (v ∷ b.rest) = subst (Over T.system.events) b.front (is.queues i b.machine) in
        (none k lk).0 i b.machine v o.0 (record { state = s; is = is; coded = sym e; so = b })
    safe s is (k, lk, e) (inr (q, lq, b)) = (none k lk).1.0 q lq (record { state = s; is = is; coded = sym e; so = b })

pub found_nothing : FoundNothing
found_nothing T law p sound st none = record { begins = st; safe = safe T law p sound none; stays = stays T law p sound none }

pub closed_nothing : ClosedNothing
closed_nothing T c k lk = (
  (λ i li e le lets. c.safe lets.state lets.is (k, lk, sym lets.coded) (inl (i, e, lets.so))),
  (
    (λ q lq lets. c.safe lets.state lets.is (k, lk, sym lets.coded) (inr (q, lq, lets.so))),
    (λ r lr o lo lets. lets.so.out (c.stays lets.state lets.so.to lets.is (k, lk, sym lets.coded) (r, lr, lets.so.makes))),
  ),
)
