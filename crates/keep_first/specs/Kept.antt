-- The laws of the layer that keeps the first event, from those of the abstraction below. Assumes nothing.
use Rattle.std.specs.Prelude.{◌≡◌, ℕ, suc, ◌+◌, ◌-◌, ◌*◌, ◌/◌, ◌%◌, ◌^◌, ◌<◌, ◌≤◌, Bool, true, cond, List, [], ◌∷◌, ◌++◌, map, Some, None, Decides, ◌==◌, ◌≢◌, nat_eq, refl}
use Rattle.std.proofs.Common.{sym, ap, ◌∙◌, subst, inl, inr, lt_of_lt_of_le, arith, pow_mono, pow-add}
use Rattle.std.specs.List.{slice_get}
use Rattle.std.proofs.lemmas.Bool.{cases_eq, eqb-true, eq-eqb}
use Rattle.std.proofs.lemmas.Bool.Decides.{nat_tests}
use Rattle.model.specs.Queue.{Over, Bit, Covers, Begins}
use Rattle.abstraction.specs.Meaning.{Valid, Good, Removal, Meaning, Allowed, Appended}
use Rattle.model.specs.declared.queue.Front.{Front}
use Rattle.model.specs.declared.queue.Front.TheVariants.{Any, Empty, Event}
use Rattle.abstraction.proofs.Nth.{nth_cond, nth_map, nth_map_back, nth_before, nth_front, nth_behind}
use mathlib.Core.Path.{Σ_path}
use Rattle.model.proofs.States.{over_back}
use Rattle.abstraction.proofs.Masks.{covers_zero}
use Rattle.abstraction.proofs.Calls.{covers_none}
use Rattle.keep_first.specs.KeepFirst.{keep_bits, keep_code, keep_removals, keep_taken, begun, kept, Split}

pub valid_below : {m : ℕ} (w : ℕ) → Valid m (keep_bits w) → Valid m w
valid_below w v = record { some = v.some; few = v.few; narrow = omega arith }

-- codes below fit 56 bits
pub narrow_below : {m : ℕ} (w d : ℕ) → Valid m (keep_bits w) → d < 2 ^ w → d < 2 ^ 56
narrow_below w d v h = let l : w ≤ 56 = omega arith in lt_of_lt_of_le h (pow_mono l)

module _ (w : ℕ) (code : ℕ → List ℕ → ℕ) where
  pub good_up : (m c e b : ℕ) → Valid m (keep_bits w) → e < m → c ≡ 16 * b + e + 1 → Good w code m b → Good (keep_bits w) (keep_code code) m c
  good_up m c e b v l p g = record { valid = v; queue = e ∷ g.queue; over = (l, g.over); coded = omega (arith, g.coded) }

  -- the queue of a code that is not 0
  pub first_of : (m c : ℕ) (Q : List ℕ) → (c ≢ 0) → Over m Q → keep_code code m Q ≡ c → (e : ℕ) × (R : List ℕ) × (Q ≡ e ∷ R) × (e < m) × Over m R × (c ≡ 16 * code m R + e + 1)
  first_of m c [] z o p = absurd (z (sym p))
  first_of m c (e ∷ R) z o p = (e, R, refl, o.0, o.1, sym p)

  -- first event and code below of a queue's code
  pub parts : (m c e b f : ℕ) (R : List ℕ) → m ≤ 8 → e < m → f < m → c ≡ 16 * b + e + 1 → c ≡ 16 * code m R + f + 1 → (f ≡ e) × (code m R ≡ b)
  parts m c e b f R v l k p q = (omega arith, omega arith)

  pub good_down : (m c e b : ℕ) → e < m → c ≡ 16 * b + e + 1 → Good (keep_bits w) (keep_code code) m c → Good w code m b
  good_down m c e b l p g =
      let (f, R, _, k, o, q) = first_of m c g.queue (λ z. omega arith) g.over g.coded in
      record { valid = valid_below w g.valid; queue = R; over = o; coded = (parts m c e b f R g.valid.few l k p q).1 }

  pub good_parts : (m c : ℕ) → (c ≢ 0) → Split (keep_bits w) m c None → Good (keep_bits w) (keep_code code) m c → ⊥
  good_parts m c z s g =
      let (f, R, _, k, o, q) = first_of m c g.queue z g.over g.coded in
      s f (code m R) g.valid k q

  pub append_up : (m c e f b d : ℕ) → Valid m (keep_bits w) → f < m → c ≡ 16 * b + f + 1 → Appended w code m b e (Some d) → Appended (keep_bits w) (keep_code code) m c e (Some (16 * d + f + 1))
  append_up m c e f b d v l p a = (good_up m c f b v l p a.0, a.1, to)
    where
      to : (Q : List ℕ) → Over m Q → keep_code code m Q ≡ c → keep_code code m (Q ++ e ∷ []) ≡ 16 * d + f + 1
      to [] o q = absurd (omega arith)
      to (g ∷ Q) o q =
          let s = parts m c f b g Q v.few l o.0 p (sym q) in
          let t = a.2 Q o.1 s.1 in
          omega (arith, s.0, t)

  pub append_small : {removals : ℕ → ℕ → List (ℕ × ℕ)} → Meaning w code removals → (m b e d : ℕ) → Appended w code m b e (Some d) → d < 2 ^ w
  append_small law m b e d (g, l, to) =
      subst (λ (x : ℕ). x < 2 ^ w) (to g.queue g.over g.coded) (law.small m (g.queue ++ e ∷ []) g.valid (over_back m e g.queue l g.over))

  pub allow_none : (m mask : ℕ) (front : Front) → Valid m (keep_bits w) → mask < 256 → ((e : ℕ) → front ≢ Event e) → Decides (mask == 0) (Allowed (keep_bits w) (keep_code code) m 0 front mask)
  allow_none m mask front v low ne = (λ t. record { valid = v; queue = []; over = tt; coded = refl; begins = begin front ne; covers = subst (λ (x : ℕ). Covers x []) (sym (eqb-true mask 0 t)) (covers_zero []) }, λ a. eq-eqb mask 0 (none a.queue a.coded a.covers))
    where
      begin : (front : Front) → ((e : ℕ) → front ≢ Event e) → Begins front []
      begin Any ne = tt
      begin Empty ne = tt
      begin (Event e) ne = ne e refl

      none : (Q : List ℕ) → keep_code code m Q ≡ 0 → Covers mask Q → mask ≡ 0
      none [] p h = covers_none mask low h
      none (e ∷ Q) p h = absurd (omega arith)

  pub allow_parts : (m c mask : ℕ) (front : Front) → (c ≢ 0) → Split (keep_bits w) m c None → Allowed (keep_bits w) (keep_code code) m c front mask → ⊥
  allow_parts m c mask front z s a = good_parts m c z s (record { valid = a.valid; queue = a.queue; over = a.over; coded = a.coded })

  pub allow_up : (m c e b mask rest : ℕ) (front : Front) (r : Bool) → Valid m (keep_bits w) → e < m → c ≡ 16 * b + e + 1
      → ((f : ℕ) → (Bit rest f → (f ≢ e) × Bit mask f) × (Bit mask f → (f ≢ e) → Bit rest f))
      → ((Q : List ℕ) → Begins front (e ∷ Q))
      → Decides r (Allowed w code m b Any rest) → Decides r (Allowed (keep_bits w) (keep_code code) m c front mask)
  allow_up m c e b mask rest front r v l p cut begin d = (λ t. up (d.0 t), λ a. d.1 (down a))
    where
      up : Allowed w code m b Any rest → Allowed (keep_bits w) (keep_code code) m c front mask
      up a = record {
        valid = v;
        queue = e ∷ a.queue;
        over = (l, a.over);
        coded = omega (arith, a.coded);
        begins = begin a.queue;
        covers = λ f h. elim (cases_eq f e) [ inl s ↦ inl s | inr s ↦ inr (a.covers f ((cut f).1 h s)) ];
      }

      down : Allowed (keep_bits w) (keep_code code) m c front mask → Allowed w code m b Any rest
      down a =
          let (f, R, is, k, o, q) = first_of m c a.queue (λ z. omega arith) a.over a.coded in
          let s = parts m c e b f R v.few l k p q in
          let held : Covers mask (f ∷ R) = subst (Covers mask) is a.covers in
          record {
            valid = valid_below w v;
            queue = R;
            over = o;
            coded = s.1;
            begins = tt;
            covers = λ g h. elim (held g ((cut g).0 h).1) [ inl t ↦ absurd (((cut g).0 h).0 (t ∙ s.0)) | inr t ↦ t ];
          }

module _ (w : ℕ) (code : ℕ → List ℕ → ℕ) (removals : ℕ → ℕ → List (ℕ × ℕ)) (law : Meaning w code removals) where
  pub keep_at : (m c e b : ℕ) → Valid m (keep_bits w) → e < m → c ≡ 16 * b + e + 1 → keep_removals w code removals m c ≡ keep_taken code removals m e b
  keep_at m c e b v l p =
      let t : begun (keep_bits w) m c ≡ true = grind (arith, nat_tests) in
      let q : c / 16 ≡ b = omega arith in
      let r : c % 16 - 1 ≡ e = omega arith in
      ap (λ (x : Bool). cond x (keep_taken code removals m (c % 16 - 1) (c / 16)) []) t
      ∙ ap (λ (x : ℕ). keep_taken code removals m (c % 16 - 1) x) q
      ∙ ap (λ (x : ℕ). keep_taken code removals m x b) r

  pub keep_begun : (m c k : ℕ) (x : ℕ × ℕ) → slice_get (keep_removals w code removals m c) k ≡ Some x → (e : ℕ) × (b : ℕ) × Valid m (keep_bits w) × (e < m) × (c ≡ 16 * b + e + 1) × (slice_get (keep_taken code removals m e b) k ≡ Some x)
  keep_begun m c k x h =
      let (t, n) = nth_cond (begun (keep_bits w) m c) (keep_taken code removals m (c % 16 - 1) (c / 16)) k x h in
      let f : (1 ≤ m) × (m ≤ 8) × (keep_bits w ≤ 60) × (1 ≤ c % 16) × (c % 16 ≤ m) = grind (arith, nat_tests) in
      (c % 16 - 1, c / 16, record { some = f.0; few = f.1; narrow = f.2 }, omega (arith, f.3, f.4), omega (arith, f.3), n)

  pub keep_removed : (m c k e d : ℕ) → slice_get (keep_removals w code removals m c) k ≡ Some (e, d) → Removal (keep_bits w) (keep_code code) m c e d
  keep_removed m c k e d h =
      let (f, b, v, l, p, n) = keep_begun m c k (e, d) h in
      elim (nth_before ((code m []) == b) (f, 0) (map (kept f) (removals m b)) k (e, d) n) [
        | inl (t, _, q) ↦ first f b v l p (eqb-true (code m []) b t) q
        | inr (j, i, _) ↦ later f b v l p j i
      ]
    where
      first : (f b : ℕ) → Valid m (keep_bits w) → f < m → c ≡ 16 * b + f + 1 → code m [] ≡ b → ◌≡◌ {A = ℕ × ℕ} (f, 0) (e, d) → Removal (keep_bits w) (keep_code code) m c e d
      first f b v l p t q =
          let x : f ≡ e = ap (λ (y : ℕ × ℕ). y.0) q in
          let y : 0 ≡ d = ap (λ (y : ℕ × ℕ). y.1) q in
          record { valid = v; event = omega arith; queue = []; over = tt; after = y; before = omega arith }

      later : (f b : ℕ) → Valid m (keep_bits w) → f < m → c ≡ 16 * b + f + 1 → (j : ℕ) → slice_get (map (kept f) (removals m b)) j ≡ Some (e, d) → Removal (keep_bits w) (keep_code code) m c e d
      later f b v l p j i =
          let (x, n, q) = nth_map_back (kept f) (removals m b) j (e, d) i in
          let r = law.removed m b j x.0 x.1 n in
          let y : f ≡ e = ap (λ (y : ℕ × ℕ). y.0) q in
          let z : 16 * x.1 + x.0 + 1 ≡ d = ap (λ (y : ℕ × ℕ). y.1) q in
          record {
            valid = v;
            event = omega arith;
            queue = x.0 ∷ r.queue;
            over = (r.event, r.over);
            after = omega (arith, r.after);
            before = omega (arith, r.before);
          }

  pub keep_removes : (m c e d : ℕ) → Removal (keep_bits w) (keep_code code) m c e d → (k : ℕ) × (slice_get (keep_removals w code removals m c) k ≡ Some (e, d))
  keep_removes m c e d r = go r.queue r.over r.after r.before
    where
      go : (Q : List ℕ) → Over m Q → keep_code code m Q ≡ d → 16 * code m Q + e + 1 ≡ c → (k : ℕ) × (slice_get (keep_removals w code removals m c) k ≡ Some (e, d))
      go [] o p q = (
        0,
        ap (λ (x : List (ℕ × ℕ)). slice_get x 0) (keep_at m c e (code m []) r.valid r.event (sym q))
            ∙ nth_front ((code m []) == (code m [])) (e, 0) (map (kept e) (removals m (code m []))) (eq-eqb (code m []) (code m []) refl)
            ∙ ap (λ (x : ℕ). Some (e, x)) p,
      )
      go (f ∷ R) o p q =
          let b : ℕ = code m (f ∷ R) in
          let t : Bool = nat_eq (code m []) b in
          let (j, n) = law.removes m b f (code m R) (record { valid = valid_below w r.valid; event = o.0; queue = R; over = o.1; after = refl; before = refl }) in (
            cond t (suc j) j,
            ap (λ (x : List (ℕ × ℕ)). slice_get x (cond t (suc j) j)) (keep_at m c e b r.valid r.event (sym q))
                ∙ nth_behind t (e, 0) (map (kept e) (removals m b)) j
                ∙ nth_map (kept e) (removals m b) j (f, code m R) n
                ∙ ap (λ (x : ℕ). Some (e, x)) p,
          )

  pub keep_once : (m c k j : ℕ) (x : ℕ × ℕ) → slice_get (keep_removals w code removals m c) k ≡ Some x → slice_get (keep_removals w code removals m c) j ≡ Some x → k ≡ j
  keep_once m c k j x h i =
      let (e, b, v, l, p, n) = keep_begun m c k x h in
      let n' : slice_get (keep_taken code removals m e b) j ≡ Some x = ap (λ (y : List (ℕ × ℕ)). slice_get y j) (sym (keep_at m c e b v l p)) ∙ i in
      let at = nth_before ((code m []) == b) (e, 0) (map (kept e) (removals m b)) in
      elim (at k x n) [
        | inl (t, z, q) ↦ (elim (at j x n') [ inl (_, z', _) ↦ z ∙ sym z' | inr (j', n2, _) ↦ absurd (apart e b j' q n2) ])
        | inr (k', n1, z) ↦ (elim (at j x n') [
          | inl (_, _, q) ↦ absurd (apart e b k' q n1)
          | inr (j', n2, z') ↦ z ∙ ap (λ (y : ℕ). cond ((code m []) == b) (suc y) y) (same e b v.few k' j' n1 n2) ∙ sym z'
        ])
      ]
    where
      apart : (e b j : ℕ) → ◌≡◌ {A = ℕ × ℕ} (e, 0) x → slice_get (map (kept e) (removals m b)) j ≢ Some x
      apart e b j q n =
          let (y, _, s) = nth_map_back (kept e) (removals m b) j x n in
          omega (arith, ap (λ (y : ℕ × ℕ). y.1) (s ∙ sym q))

      same : (e b : ℕ) → m ≤ 8 → (k j : ℕ) → slice_get (map (kept e) (removals m b)) k ≡ Some x → slice_get (map (kept e) (removals m b)) j ≡ Some x → k ≡ j
      same e b few k j h i =
          let (y, n1, p) = nth_map_back (kept e) (removals m b) k x h in
          let (z, n2, q) = nth_map_back (kept e) (removals m b) j x i in
          let s : 16 * y.1 + y.0 + 1 ≡ 16 * z.1 + z.0 + 1 = ap (λ (y : ℕ × ℕ). y.1) (p ∙ sym q) in
          let ly = (law.removed m b k y.0 y.1 n1).event in
          let lz = (law.removed m b j z.0 z.1 n2).event in
          let t : y ≡ z = Σ_path (omega arith) (omega arith) in
          law.once m b k j z (n1 ∙ ap Some t) n2

  pub keep_small : (m : ℕ) (Q : List ℕ) → Valid m (keep_bits w) → Over m Q → keep_code code m Q < 2 ^ keep_bits w
  keep_small m [] v o = lt_of_lt_of_le (omega arith) (pow_mono {i = 0} {j = keep_bits w} (omega arith))
  keep_small m (e ∷ Q) v o =
      let s = law.small m Q (valid_below w v) o.1 in
      let b : keep_bits w ≡ 4 + w = omega arith in
      let t : 2 ^ keep_bits w ≡ 2 ^ 4 * 2 ^ w = ap (λ (x : ℕ). 2 ^ x) b ∙ pow-add 2 4 w in
      omega (arith, t, o.0)

  pub keep_appends : (m e : ℕ) (Q R : List ℕ) → Valid m (keep_bits w) → e < m → Over m Q → Over m R → keep_code code m Q ≡ keep_code code m R → keep_code code m (Q ++ e ∷ []) ≡ keep_code code m (R ++ e ∷ [])
  keep_appends m e [] [] v l o u p = refl
  keep_appends m e [] (g ∷ R) v l o u p = absurd (omega arith)
  keep_appends m e (f ∷ Q) [] v l o u p = absurd (omega arith)
  keep_appends m e (f ∷ Q) (g ∷ R) v l o u p =
      let c : code m Q ≡ code m R = omega (arith, o.0, u.0) in
      let d : f ≡ g = omega (arith, o.0, u.0) in
      omega (arith, law.appends m e Q R (valid_below w v) l o.1 u.1 c)

  pub keep_meaning : Meaning (keep_bits w) (keep_code code) (keep_removals w code removals)
  keep_meaning = record {
    small = keep_small;
    start = λ m. refl;
    appends = keep_appends;
    removed = keep_removed;
    removes = keep_removes;
    once = keep_once;
  }

  -- the removals below, from the place of the layer's
  pub keep_nth : (m c e b k at : ℕ) → Valid m (keep_bits w) → e < m → c ≡ 16 * b + e + 1 → k ≡ cond ((code m []) == b) (suc at) at → slice_get (keep_removals w code removals m c) k ≡ slice_get (map (kept e) (removals m b)) at
  keep_nth m c e b k at v l p q =
      ap (λ (x : List (ℕ × ℕ)). slice_get x k) (keep_at m c e b v l p)
      ∙ ap (slice_get (keep_taken code removals m e b)) q
      ∙ nth_behind ((code m []) == b) (e, 0) (map (kept e) (removals m b)) at
