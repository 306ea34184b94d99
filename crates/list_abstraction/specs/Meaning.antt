-- The laws of the list abstraction. Assumes nothing.
use Rattle.std.specs.Prelude.{◌≡◌, ℕ, zero, suc, ◌<◌, ◌≤◌, Bool, true, cond, ◌&&◌, ◌⊎◌, List, [], ◌∷◌, length, Some, ◌==◌, nat_le, refl}
use Rattle.std.proofs.Common.{sym, ap, ◌∙◌, subst, inl, inr, arith}
use Rattle.std.specs.List.{slice_get}
use Rattle.std.proofs.lemmas.Bool.{and_parts, and_from, leb-true, le-leb, eqb-true, eq-eqb}
use Rattle.std.proofs.lemmas.Option.{none-some, same_Some}
use Rattle.model.specs.Queue.{Over}
use Rattle.abstraction.specs.Meaning.{Valid, Good, Removal, Meaning}
use Rattle.abstraction.proofs.Nth.{nth_cond, nth_map, nth_map_back}
use Rattle.abstraction.specs.Distinct.{Absent, Apart, Below, without}
use Rattle.abstraction.proofs.Distinct.{below_over, without_absent, few_below}
use Rattle.list_abstraction.specs.Read.{Coded}
use Rattle.list_abstraction.specs.List.{firsts, pack, unpack, listed, insertions, list_code, list_good, removals_of, list_removals}
use Rattle.list_abstraction.specs.Lists.{firsts_apart, firsts_below, firsts_same, pack_same, pack_below, unpack_pack, listed_parts, listed_from, added, firsts_append, insertions_place, insertions_without, insertions_all, insertions_apart, insertions_longer, insertions_once}

pub coded_of : (m : ℕ) (Q : List ℕ) → Valid m 32 → Over m Q → Coded m (list_code m Q) (firsts Q)
coded_of m Q v o = record { valid = v; below = firsts_below m Q o; apart = firsts_apart Q; packed = refl }

pub coded_good : (m c : ℕ) (L : List ℕ) → Coded m c L → Good 32 list_code m c
coded_good m c L k = record { valid = k.valid; queue = L; over = below_over m L k.below; coded = ap pack (firsts_same L k.apart) ∙ k.packed }

pub good_coded : (m c : ℕ) → Good 32 list_code m c → (L : List ℕ) × Coded m c L
good_coded m c g = (firsts g.queue, record { valid = g.valid; below = firsts_below m g.queue g.over; apart = firsts_apart g.queue; packed = g.coded })

pub coded_unpack : (m c : ℕ) (L : List ℕ) → Coded m c L → unpack 8 c ≡ L
coded_unpack m c L k =
    let n : length L ≤ 8 = omega (arith, few_below m L k.below k.apart, k.valid.few) in
    ap (unpack 8) (sym k.packed) ∙ unpack_pack m 8 L k.valid.few k.below n

pub test_coded : (m c : ℕ) → list_good m c ≡ true → Coded m c (unpack 8 c)
test_coded m c t =
    let p = and_parts (nat_le 1 m && nat_le m 8 && pack (unpack 8 c) == c) (listed m (unpack 8 c)) t in
    let q = and_parts (nat_le 1 m && nat_le m 8) (pack (unpack 8 c) == c) p.0 in
    let r = and_parts (nat_le 1 m) (nat_le m 8) q.0 in
    let l = listed_parts m (unpack 8 c) p.1 in
    record { valid = record { some = leb-true 1 m r.0; few = leb-true m 8 r.1; narrow = omega arith }; below = l.0; apart = l.1; packed = eqb-true (pack (unpack 8 c)) c q.1 }

pub coded_test : (m c : ℕ) (L : List ℕ) → Coded m c L → list_good m c ≡ true
coded_test m c L k =
    let u = coded_unpack m c L k in
    and_from (nat_le 1 m && nat_le m 8 && pack (unpack 8 c) == c) (listed m (unpack 8 c))
    (and_from (nat_le 1 m && nat_le m 8) (pack (unpack 8 c) == c) (and_from (nat_le 1 m) (nat_le m 8) (le-leb 1 m k.valid.some) (le-leb m 8 k.valid.few)) (eq-eqb (pack (unpack 8 c)) c (ap pack u ∙ k.packed)))
    (ap (listed m) u ∙ listed_from m L k.below k.apart)

-- the removals, from the list
pub removals_at : (m c : ℕ) (L : List ℕ) → Coded m c L → list_removals m c ≡ removals_of L
removals_at m c L k = ap (λ (b : Bool). cond b (removals_of (unpack 8 c)) []) (coded_test m c L k) ∙ ap removals_of (coded_unpack m c L k)

abbrev left : ℕ → List ℕ → ℕ × ℕ
left e R = (e, pack R)

list_removed : (m c k e d : ℕ) → slice_get (list_removals m c) k ≡ Some (e, d) → Removal 32 list_code m c e d
list_removed m c k e d h =
    let (t, n) = nth_cond (list_good m c) (removals_of (unpack 8 c)) k (e, d) h in
    go (unpack 8 c) (test_coded m c t) n
  where
    made : (f : ℕ) (L R : List ℕ) → Coded m c (f ∷ L) → Below m R → Apart R → without f R ≡ L → ◌≡◌ {A = ℕ × ℕ} (f, pack R) (e, d) → Removal 32 list_code m c e d
    made f L R k b a p q =
        let x : f ≡ e = ap (λ (y : ℕ × ℕ). y.0) q in
        let y : pack R ≡ d = ap (λ (y : ℕ × ℕ). y.1) q in
        let s : firsts R ≡ R = firsts_same R a in
        record {
          valid = k.valid;
          event = omega (arith, k.below.0);
          queue = R;
          over = below_over m R b;
          after = ap pack s ∙ y;
          before = ap (λ (z : ℕ). pack (z ∷ without z (firsts R))) (sym x) ∙ ap (λ (X : List ℕ). pack (f ∷ without f X)) s ∙ ap (λ (X : List ℕ). pack (f ∷ X)) p ∙ k.packed;
        }

    go : (L : List ℕ) → Coded m c L → slice_get (removals_of L) k ≡ Some (e, d) → Removal 32 list_code m c e d
    go [] w n = absurd (none-some _ n)
    go (f ∷ L) w n =
        let (R, i, q) = nth_map_back (left f) (L ∷ insertions f L) k (e, d) n in
        at R k i q
      where
        at : (R : List ℕ) (k : ℕ) → slice_get (L ∷ insertions f L) k ≡ Some R → left f R ≡ (e, d) → Removal 32 list_code m c e d
        at R zero i q =
            let s : L ≡ R = same_Some L R i in
            made f L R w (subst (Below m) s w.below.1) (subst Apart s w.apart.1) (ap (without f) (sym s) ∙ without_absent f L w.apart.0) q
        at R (suc k) i q =
            made f L R w (insertions_all (λ (y : ℕ). y < m) f L k R w.below.0 w.below.1 i) (insertions_apart f L k R w.apart.0 w.apart.1 i) (insertions_without f L k R w.apart.0 i) q

list_removes : (m c e d : ℕ) → Removal 32 list_code m c e d → (k : ℕ) × (slice_get (list_removals m c) k ≡ Some (e, d))
list_removes m c e d r =
    let F : List ℕ = firsts r.queue in
    let L : List ℕ = without e F in
    let k = coded_of m (e ∷ r.queue) r.valid (r.event, r.over) in
    let w : Coded m c (e ∷ L) = subst (λ (x : ℕ). Coded m x (e ∷ L)) r.before k in
    let (j, i) = place F L (insertions_place e F L (firsts_apart r.queue) refl) in
    (j, ap (λ (xs : List (ℕ × ℕ)). slice_get xs j) (removals_at m c (e ∷ L) w) ∙ nth_map (left e) (L ∷ insertions e L) j F i ∙ ap (λ (x : ℕ). Some (e, x)) r.after)
  where
    place : (F L : List ℕ) → (F ≡ L) ⊎ ((k : ℕ) × (slice_get (insertions e L) k ≡ Some F)) → (k : ℕ) × (slice_get (L ∷ insertions e L) k ≡ Some F)
    place F L (inl p) = (0, ap Some (sym p))
    place F L (inr (k, h)) = (suc k, h)

list_once : (m c k j : ℕ) (x : ℕ × ℕ) → slice_get (list_removals m c) k ≡ Some x → slice_get (list_removals m c) j ≡ Some x → k ≡ j
list_once m c k j x h i =
    let (t, n) = nth_cond (list_good m c) (removals_of (unpack 8 c)) k x h in
    let (_, o) = nth_cond (list_good m c) (removals_of (unpack 8 c)) j x i in
    go (unpack 8 c) (test_coded m c t) n o
  where
    lists : (e : ℕ) (L : List ℕ) → Absent e L → (k j : ℕ) (R : List ℕ) → slice_get (L ∷ insertions e L) k ≡ Some R → slice_get (L ∷ insertions e L) j ≡ Some R → k ≡ j
    lists e L a zero zero R h i = refl
    lists e L a zero (suc j) R h i = absurd (omega (arith, insertions_longer e L j R i, ap length (same_Some L R h)))
    lists e L a (suc k) zero R h i = absurd (omega (arith, insertions_longer e L k R h, ap length (same_Some L R i)))
    lists e L a (suc k) (suc j) R h i = ap suc (insertions_once e L k j R a h i)

    within : (e : ℕ) (L : List ℕ) → Coded m c (e ∷ L) → (k : ℕ) (R : List ℕ) → slice_get (L ∷ insertions e L) k ≡ Some R → Below m R
    within e L w zero R h = subst (Below m) (same_Some L R h) w.below.1
    within e L w (suc k) R h = insertions_all (λ (y : ℕ). y < m) e L k R w.below.0 w.below.1 h

    go : (L : List ℕ) → Coded m c L → slice_get (removals_of L) k ≡ Some x → slice_get (removals_of L) j ≡ Some x → k ≡ j
    go [] w n o = absurd (none-some _ n)
    go (e ∷ L) w n o =
        let (R, i, q) = nth_map_back (left e) (L ∷ insertions e L) k x n in
        let (S, l, p) = nth_map_back (left e) (L ∷ insertions e L) j x o in
        let s : R ≡ S = pack_same m R S w.valid.few (within e L w k R i) (within e L w j S l) (ap (λ (y : ℕ × ℕ). y.1) (q ∙ sym p)) in
        lists e L w.apart.0 k j S (i ∙ ap Some s) l

pub list_meaning : Meaning 32 list_code list_removals
list_meaning = record {
  small = λ m Q v o.
      let n : length (firsts Q) ≤ 8 = omega (arith, few_below m (firsts Q) (firsts_below m Q o) (firsts_apart Q), v.few) in
      pack_below m 8 (firsts Q) v.few (firsts_below m Q o) n;
  start = λ m. refl;
  appends = λ m e Q R v l o u p.
      let s : firsts Q ≡ firsts R = pack_same m (firsts Q) (firsts R) v.few (firsts_below m Q o) (firsts_below m R u) p in
      ap pack (firsts_append e Q ∙ ap (added e) s ∙ sym (firsts_append e R));
  removed = list_removed;
  removes = list_removes;
  once = list_once;
}
