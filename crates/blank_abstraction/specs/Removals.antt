-- The removals of the blank abstraction. Assumes nothing.
use Rattle.std.specs.Prelude.{◌≡◌, ℕ, ◌<◌, ◌≤◌, Bool, true, cond, [], Some, refl}
use Rattle.std.proofs.Common.{sym, ap, ◌∙◌, subst, arith}
use Rattle.std.proofs.lemmas.Bool.Decides.{nat_tests}
use Rattle.std.specs.List.{slice_get}
use Rattle.abstraction.specs.Meaning.{Removal, Meaning}
use Rattle.model.proofs.Counted.{nth_counted}
use Rattle.abstraction.proofs.Nth.{nth_cond, nth_counted_back}
use Rattle.blank_abstraction.specs.Blank.{blank_code, blank_good, each_event, blank_removals}

pub blank_removed : (m c k e d : ℕ) → slice_get (blank_removals m c) k ≡ Some (e, d) → Removal 0 blank_code m c e d
blank_removed m c k e d h =
    let p = nth_cond (blank_good m c) (each_event m) k (e, d) h in
    let q = nth_counted_back (λ (e : ℕ). (e, 0)) m k (e, d) p.1 in
    let v : (1 ≤ m) × (m ≤ 8) × (c ≡ 0) = grind (arith, nat_tests) in
    record {
      valid = record { some = v.0; few = v.1; narrow = omega arith };
      event = subst (λ (x : ℕ × ℕ). x.0 < m) q.1 q.0;
      queue = [];
      over = tt;
      after = ap (λ (x : ℕ × ℕ). x.1) q.1;
      before = sym v.2;
    }

pub blank_removes : (m c e d : ℕ) → Removal 0 blank_code m c e d → (k : ℕ) × (slice_get (blank_removals m c) k ≡ Some (e, d))
blank_removes m c e d r =
    let t : blank_good m c ≡ true = grind (arith, nat_tests) in
    (e, ap (λ (b : Bool). slice_get (cond b (each_event m) []) e) t ∙ nth_counted (λ (e : ℕ). (e, 0)) m e r.event ∙ ap (λ (d : ℕ). Some (e, d)) r.after)

pub blank_once : (m c k j : ℕ) (x : ℕ × ℕ) → slice_get (blank_removals m c) k ≡ Some x → slice_get (blank_removals m c) j ≡ Some x → k ≡ j
blank_once m c k j x h g =
    let a = nth_counted_back (λ (e : ℕ). (e, 0)) m k x (nth_cond (blank_good m c) (each_event m) k x h).1 in
    let b = nth_counted_back (λ (e : ℕ). (e, 0)) m j x (nth_cond (blank_good m c) (each_event m) j x g).1 in
    ap (λ (x : ℕ × ℕ). x.0) (a.1 ∙ sym b.1)

pub removal_event : (m c k e d : ℕ) → slice_get (blank_removals m c) k ≡ Some (e, d) → k < m
removal_event m c k e d h = (nth_counted_back (λ (e : ℕ). (e, 0)) m k (e, d) (nth_cond (blank_good m c) (each_event m) k (e, d) h).1).0

pub blank_meaning : Meaning 0 blank_code blank_removals
blank_meaning = record {
  small = λ m Q v o. omega arith;
  start = λ m. refl;
  appends = λ m e Q R v l o u h. refl;
  removed = blank_removed;
  removes = blank_removes;
  once = blank_once;
}
