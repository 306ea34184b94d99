-- What a record lets happen: steps. Assumes nothing.
use Rattle.std.proofs.Common.{◌≡◌, ℕ, ◌<◌, List, [], ◌∷◌, ◌++◌, length, set, Some, Option, sym, refl, ap, ◌∙◌, subst, inl, inr, arith, get_or-set_other}
use Rattle.std.proofs.lemmas.Bool.{cases_eq}
use Rattle.std.proofs.lemmas.Option.{same_Some}
use Rattle.model.proofs.States.{is_set}
use Rattle.model.specs.State.{State, local_at, queue_at, IsState}
use Rattle.model.specs.Steps.{Acts, moved, sent}
use Rattle.model.specs.System.{machines, RuleFits, ActionFits}
use Rattle.model.specs.declared.rule.Action.{Action}
use Rattle.model.specs.declared.rule.Action.TheVariants.{Local, Take, Send}
use Rattle.model.specs.declared.rule.Rule.{Rule}
use Rattle.closed_sets.proofs.Chosen.{local_is, code_is, codes_set, chosen, requeued, queue_set}
use Rattle.closed_sets.specs.Codes.{moved_in, sent_in, Leads, OutsideLets, OutsideNot}
use Rattle.closed_sets.specs.Judging.{Leaves, Numbered}
use Rattle.closed_sets.specs.Records.{Claim, Record, code_in, local_in, codes, Listed, Sound, Lets}
use Rattle.closed_sets.specs.Theorems.{Means}

module _ (T : Claim) (law : Means T) (r : Record) (sound : Sound T r) (x : Rule) (f : RuleFits T.system x) where
  -- the queues are as they were
  queue_kept : (s : State) (j : ℕ) → IsState T.system s → queue_at (moved x (queue_at s x.machine) s) j ≡ queue_at s j
  queue_kept s j is = elim (cases_eq j x.machine) [
    | inl e ↦ ap (queue_at (moved x (queue_at s x.machine) s)) e ∙ queue_set T r sound s x.machine x.to _ is f.machine ∙ ap (queue_at s) (sym e)
    | inr ne ↦ ap (λ (z : ℕ × List ℕ). z.1) (get_or-set_other s x.machine j _ (0, []) ne)
  ]

  sent_codes : (s : State) (e t d : ℕ) → IsState T.system s → codes T s ≡ r → t < machines T.system → T.code T.system.events (queue_at s t ++ (e ∷ [])) ≡ d → codes T (sent e t (moved x (queue_at s x.machine) s)) ≡ sent_in t d (moved_in x (code_in r x.machine) r)
  sent_codes s e t d is c h q =
      let u = moved x (queue_at s x.machine) s in
      let ls : x.machine < length s = omega (arith, is.entries, f.machine) in
      let uis : IsState T.system u = is_set T.system s x.machine x.to _ is f.machine f.to (is.queues x.machine f.machine) in
      let lu : t < length u = omega (arith, uis.entries) in
      let ru = moved_in x (code_in r x.machine) r in
      let cu : codes T u ≡ ru = codes_set T s r x.machine x.to _ _ c (code_is T s r x.machine c ls) in
      codes_set T u ru t (local_at u t) _ d cu (ap (λ (z : List ℕ). T.code T.system.events (z ++ (e ∷ []))) (queue_kept s t is) ∙ q)
      ∙ ap (λ (z : ℕ). set ru t (z, d)) (local_is T u ru t cu lu)

  made : (a : Action) → ActionFits T.system a → (c : ℕ) (q : Record) → Leads T x a r c q → (s : State) × (t : State) × IsState T.system s × (codes T s ≡ r) × Acts a x s t × Numbered T a r x.machine t c × (codes T t ≡ q)
  made Local n c q (z, e) =
      let s = chosen T r sound in
      let ls : x.machine < length s.0 = omega (arith, s.1.entries, f.machine) in (
        s.0,
        moved x (queue_at s.0 x.machine) s.0,
        s.1,
        s.2,
        refl,
        z,
        codes_set T s.0 r x.machine x.to _ _ s.2 (code_is T s.0 r x.machine s.2 ls) ∙ sym e,
      )
  made (Take v) n c q (d, at, e) =
      let s0 = chosen T r sound in
      let i = x.machine in
      let m = law.removed T.system.events (code_in r i) c v d at in
      let re = requeued T r sound s0.0 i (v ∷ m.queue) s0.1 s0.2 f.machine (m.event, m.over) m.before in
      let s = set s0.0 i (local_at s0.0 i, v ∷ m.queue) in
      let qt = queue_set T r sound s i x.to m.queue re.0 f.machine in (
        s,
        moved x m.queue s,
        re.0,
        re.1,
        (m.queue, queue_set T r sound s0.0 i (local_at s0.0 i) (v ∷ m.queue) s0.1 f.machine, refl),
        at ∙ ap (λ (z : ℕ). Some (v, z)) (sym m.after ∙ ap (T.code T.system.events) (sym qt)),
        codes_set T s r i x.to m.queue d re.1 m.after ∙ sym e,
      )
  made (Send v t) n c q (d, z, app, e) =
      let s = chosen T r sound in
      let lt : t < length s.0 = omega (arith, s.1.entries, n.1) in (
        s.0,
        sent v t (moved x (queue_at s.0 x.machine) s.0),
        s.1,
        s.2,
        refl,
        z,
        sent_codes s.0 v t d s.1 s.2 n.1 (app (queue_at s.0 t) (s.1.queues t n.1) (code_is T s.0 r t s.2 lt)) ∙ sym e,
      )

  leads : (a : Action) → ActionFits T.system a → (c : ℕ) (s t : State) → IsState T.system s → codes T s ≡ r → Acts a x s t → Numbered T a r x.machine t c → Leads T x a r c (codes T t)
  leads Local n c s t is e h z =
      let ls : x.machine < length s = omega (arith, is.entries, f.machine) in
      (z, ap (codes T) h ∙ codes_set T s r x.machine x.to _ _ e (code_is T s r x.machine e ls))
  leads (Take v) n c s t is e (Q, q, h) at =
      let qt : queue_at t x.machine ≡ Q = ap (λ (z : State). queue_at z x.machine) h ∙ queue_set T r sound s x.machine x.to Q is f.machine in
      (_, at, ap (codes T) h ∙ codes_set T s r x.machine x.to Q _ e (ap (T.code T.system.events) (sym qt)))
  leads (Send v d) n c s t is e h z =
      let lt : d < length s = omega (arith, is.entries, n.1) in (
        _,
        z,
        (λ Q o k. law.appends T.system.events v Q (queue_at s d) (sound.good d n.1).valid n.0 o (is.queues d n.1) (k ∙ sym (code_is T s r d e lt))),
        ap (codes T) h ∙ sent_codes s v d _ is e n.1 refl,
      )

  only : (a : Action) → ActionFits T.system a → (c : ℕ) (q p : Record) → Leads T x a r c q → Leads T x a r c p → q ≡ p
  only Local n c q p (z, e) (y, g) = e ∙ sym g
  only (Take v) n c q p (d, at, e) (b, bt, g) = let s : d ≡ b = same v d b (sym at ∙ bt) in e ∙ ap (λ (z : ℕ). moved_in x z r) s ∙ sym g
    where
      same : (v d b : ℕ) → ◌≡◌ {A = Option (ℕ × ℕ)} (Some (v, d)) (Some (v, b)) → d ≡ b
      same v d b h = ap (λ (z : ℕ × ℕ). z.1) (same_Some (v, d) (v, b) h)
  only (Send v t) n c q p (d, z, app, e) (b, y, bpp, g) =
      let k = sound.good t n.1 in
      let s : d ≡ b = sym (app k.queue k.over k.coded) ∙ bpp k.queue k.over k.coded in
      e ∙ ap (λ (z : ℕ). sent_in t z (moved_in x (code_in r x.machine) r)) s ∙ sym g

  pub leads_from : (c : ℕ) → Lets T r (Leaves T r x c) → (local_in r x.machine ≡ x.from) × ((q : Record) × Leads T x x.action r c q)
  leads_from c l =
      let ls : x.machine < length l.state = omega (arith, l.is.entries, f.machine) in (
        sym (local_is T l.state r x.machine l.coded ls) ∙ l.so.makes.0,
        (codes T l.so.to, leads x.action f.action c l.state l.so.to l.is l.coded l.so.makes.1 l.so.numbered),
      )

  pub outside_to : (c : ℕ) (q : Record) → local_in r x.machine ≡ x.from → Leads T x x.action r c q → (Listed T q → ⊥) → Lets T r (Leaves T r x c)
  outside_to c q from h absent =
      let y = made x.action f.action c q h in
      let ls : x.machine < length y.0 = omega (arith, y.2.entries, f.machine) in
      record { state = y.0; is = y.2; coded = y.3; so = record { to = y.1; makes = (local_is T y.0 r x.machine y.3 ls ∙ from, y.4); numbered = y.5; out = λ l. absent (subst (Listed T) y.6 l) } }

  pub outside_from : (c : ℕ) (q : Record) → Leads T x x.action r c q → Lets T r (Leaves T r x c) → Listed T q → ⊥
  outside_from c q h l listed =
      let g = leads x.action f.action c l.state l.so.to l.is l.coded l.so.makes.1 l.so.numbered in
      l.so.out (subst (Listed T) (only x.action f.action c q _ h g) listed)

pub outside_lets : OutsideLets
outside_lets T law r sound x f c q from h = (outside_to T law r sound x f c q from h, outside_from T law r sound x f c q h)

pub outside_not : OutsideNot
outside_not T law r sound x f c l = leads_from T law r sound x f c l
