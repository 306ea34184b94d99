-- What a record lets happen: surprise and patterns. Assumes nothing.
use Rattle.std.proofs.Common.{◌≡◌, ℕ, suc, ◌<◌, ◌≤◌, ◌≢◌, List, [], ◌∷◌, length, set, sym, refl, ap, ◌∙◌, subst, arith, get_or-set_other}
use Rattle.std.specs.List.{AllByRecursion}
use Rattle.model.specs.Bad.{NoTake, LocalIs, Met, Surprised}
use Rattle.model.specs.Queue.{Covers, Begins}
use Rattle.model.specs.State.{State, local_at, queue_at, IsState}
use Rattle.model.specs.System.{System, machines, Rise, ConditionFits}
use Rattle.model.specs.declared.pattern.Condition.{Condition}
use Rattle.model.specs.declared.queue.Front.TheVariants.{Event}
use Rattle.abstraction.proofs.Masks.{covers_zero}
use Rattle.closed_sets.proofs.Chosen.{local_is, code_is, chosen, requeued, queue_set}
use Rattle.closed_sets.specs.Codes.{MaySurprise, MayMeet, SurpriseLets, PatternLets}
use Rattle.closed_sets.specs.Records.{Claim, Record, codes, Sound, Lets}

-- the machines of the conditions are there, at least `low`, and rise strictly
abbrev Ordered : ℕ → ℕ → List Condition → Type 0
Ordered n low [] = Unit {0}
Ordered n low (c ∷ cs) = (low ≤ c.machine) × (c.machine < n) × Ordered n (suc c.machine) cs

ordered : (S : System) (low : ℕ) (p : List Condition) → AllByRecursion (ConditionFits S) p → Rise low p → Ordered (machines S) low p
ordered S low [] fit rise = tt
ordered S low (c ∷ p) (f, fs) (l, rise) = (l, f.machine, ordered S (suc c.machine) p fs rise)

begins_with : (e : ℕ) (Q : List ℕ) → Begins (Event e) Q → (R : List ℕ) × (Q ≡ e ∷ R)
begins_with e [] b = absurd b
begins_with e (f ∷ Q) b = (Q, ap (λ (x : ℕ). x ∷ Q) b)

module _ (T : Claim) (r : Record) (sound : Sound T r) where
  surprise_to : (i e : ℕ) → i < machines T.system → MaySurprise T r i e → Lets T r (λ s. Surprised T.system s i e)
  surprise_to i e h (a, none) =
      let s0 = chosen T r sound in
      let Q = a.queue in
      let s = set s0.0 i (local_at s0.0 i, Q) in
      let re = requeued T r sound s0.0 i Q s0.1 s0.2 h a.over a.coded in
      let b = begins_with e Q a.begins in
      let len : i < length s = omega (arith, re.0.entries) in
      record {
        state = s;
        is = re.0;
        coded = re.1;
        so = record { machine = h; rest = b.0; front = queue_set T r sound s0.0 i (local_at s0.0 i) Q s0.1 h ∙ b.1; no_take = subst (λ (l : ℕ). NoTake T.system i l e) (sym (local_is T s r i re.1 len)) none };
      }

  surprise_from : (i e : ℕ) → i < machines T.system → Lets T r (λ s. Surprised T.system s i e) → MaySurprise T r i e
  surprise_from i e h lets =
      let s = lets.state in
      let len : i < length s = omega (arith, lets.is.entries) in (
        record { valid = (sound.good i h).valid; queue = queue_at s i; over = lets.is.queues i h; coded = code_is T s r i lets.coded len; begins = subst (Begins (Event e)) (sym lets.so.front) refl; covers = covers_zero (queue_at s i) },
        subst (λ (l : ℕ). NoTake T.system i l e) (local_is T s r i lets.coded len) lets.so.no_take,
      )

  kept : (s : State) (i : ℕ) (v : ℕ × List ℕ) (low : ℕ) (p : List Condition) → i < low → Ordered (machines T.system) low p → Met s p → Met (set s i v) p
  kept s i v low [] h rise m = tt
  kept s i v low (c ∷ p) h rise m =
      let ne : c.machine ≢ i = (λ e. omega (arith, rise.0)) in (
        subst (λ (x : ℕ × List ℕ). LocalIs c.local x.0 × Begins c.front x.1 × Covers c.mask x.1) (sym (get_or-set_other s i c.machine v (0, []) ne)) m.0,
        kept s i v (suc c.machine) p (omega (arith, rise.0)) rise.2 m.1,
      )

  meets : (low : ℕ) (p : List Condition) → Ordered (machines T.system) low p → MayMeet T r p → (s : State) × IsState T.system s × (codes T s ≡ r) × Met s p
  meets low [] rise m = let s0 = chosen T r sound in (s0.0, s0.1, s0.2, tt)
  meets low (c ∷ p) rise (h, hs) =
      let s0 = meets (suc c.machine) p rise.2 hs in
      let i = c.machine in
      let Q = h.1.queue in
      let v : ℕ × List ℕ = (local_at s0.0 i, Q) in
      let s = set s0.0 i v in
      let re = requeued T r sound s0.0 i Q s0.1 s0.2 rise.1 h.1.over h.1.coded in
      let len : i < length s = omega (arith, re.0.entries, rise.1) in
      let q = sym (queue_set T r sound s0.0 i (local_at s0.0 i) Q s0.1 rise.1) in (
        s,
        re.0,
        re.1,
        (
          (subst (LocalIs c.local) (sym (local_is T s r i re.1 len)) h.0, subst (Begins c.front) q h.1.begins, subst (Covers c.mask) q h.1.covers),
          kept s0.0 i v (suc i) p (omega arith) rise.2 s0.3,
        ),
      )

  met_from : (s : State) → IsState T.system s → codes T s ≡ r → (low : ℕ) (p : List Condition) → Ordered (machines T.system) low p → Met s p → MayMeet T r p
  met_from s is e low [] rise m = tt
  met_from s is e low (c ∷ p) rise m =
      let i = c.machine in
      let len : i < length s = omega (arith, is.entries, rise.1) in (
        (
          subst (LocalIs c.local) (local_is T s r i e len) m.0.0,
          record { valid = (sound.good i rise.1).valid; queue = queue_at s i; over = is.queues i rise.1; coded = code_is T s r i e len; begins = m.0.1; covers = m.0.2 },
        ),
        met_from s is e (suc i) p rise.2 m.1,
      )

pub surprise_lets : SurpriseLets
surprise_lets T law r sound i e h = (surprise_to T r sound i e h, surprise_from T r sound i e h)

pub pattern_lets : PatternLets
pattern_lets T law r sound p fits =
    let rise = ordered T.system 0 p fits.fit fits.rise in (
      (λ m. let x = meets T r sound 0 p rise m in record { state = x.0; is = x.1; coded = x.2; so = x.3 }),
      (λ l. met_from T r sound l.state l.is l.coded 0 p rise l.so),
    )
