-- Entries that are held, and the record that they are. Assumes nothing.
use Rattle.std.proofs.Common.{◌≡◌, ℕ, ◌<◌, true, ◌&&◌, eqb, List, map, length, take, set, ap, ◌∙◌, arith}
use lib.ListN.{length-map}
use Rattle.std.proofs.lemmas.Bool.{and_parts, eqb-true}
use Rattle.std.proofs.lemmas.List.{length-take-le}
use lib.Seq.{map-set, take-set-lt}
use Rattle.checker.specs.Held.{entry_of, record_in}
use Rattle.checker.specs.declared.held.Entry.{Entry}
use Rattle.checker.specs.declared.held.Held.{Held}

abbrev pub blank : Entry
blank = record { local = 0; code = 0 }

pub held_set : (n : ℕ) (es : List Entry) (k : ℕ) (e : Entry) → k < n → take n (map entry_of (set es k e)) ≡ set (take n (map entry_of es)) k (entry_of e)
held_set n es k e h = ap (take n) (map-set entry_of es k e) ∙ take-set-lt n (map entry_of es) k (entry_of e) h

pub held_long : (h : Held) → length (record_in h) ≡ h.machines
held_long h = length-take-le h.machines (map entry_of h.entries) (omega (arith, h.few, h.long, length-map h.entries entry_of))

-- entries that compare equal say the same
pub same_entry : (a b : Entry) → (eqb a.local b.local && eqb a.code b.code) ≡ true → entry_of a ≡ entry_of b
same_entry a b e =
    let p = and_parts _ _ e in
    ap (λ (z : ℕ). (z, a.code)) (eqb-true a.local b.local p.0) ∙ ap (λ (z : ℕ). (b.local, z)) (eqb-true a.code b.code p.1)
