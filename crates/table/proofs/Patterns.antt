-- The pattern that a line belongs to. Assumes nothing.
use Rattle.std.proofs.Common.{◌≡◌, ℕ, zero, suc, ◌+◌, ◌-◌, ◌<◌, ◌≤◌, eqb, List, IfSome, refl, ap, ◌∙◌, inl, inr, arith}
use Rattle.std.specs.List.{slice_get}
use Rattle.std.proofs.lemmas.Bool.{cases_lt, eq-eqb, ne_eqb}
use Rattle.table.specs.Layout.{pattern_lines_n, pattern_offset}
use Rattle.table.specs.Lines.{condition_at, pattern_line_at}
use Rattle.table.specs.SystemOf.{pattern_lines_of, number_of, pattern_count}
use Rattle.table.specs.Reading.{Numbered, OfPattern}
use Rattle.table.proofs.Kept.{place_kept}
use Rattle.table.proofs.Parts.{nth_counted, nth_counted_past, patterns_long, pattern_at}

module _ (bs : List ℕ) where
  -- numbers never fall from line to line
  pub climbs : Numbered bs → (i d : ℕ) → i + d < pattern_lines_n bs → number_of bs i ≤ number_of bs (i + d)
  climbs n i zero h = let e : i + 0 ≡ i = omega arith in omega (arith, ap (number_of bs) e)
  climbs n i (suc d) h =
      let e : i + d + 1 ≡ i + suc d = omega arith in
      let up = climbs n i d (omega arith) in
      elim (n.next (i + d) (omega arith)) [ inl x ↦ omega (arith, x, ap (number_of bs) e) | inr x ↦ omega (arith, x, ap (number_of bs) e) ]

  -- so the number of a line is at most that of the last
  number_below : Numbered bs → (l : ℕ) → l < pattern_lines_n bs → number_of bs l < pattern_count bs
  number_below n l h =
      let count : pattern_count bs ≡ number_of bs (pattern_lines_n bs - 1) + 1 = simp (ne_eqb (pattern_lines_n bs) 0 (λ z. omega (arith, z))) in
      let e : l + (pattern_lines_n bs - 1 - l) ≡ pattern_lines_n bs - 1 = omega arith in
      omega (arith, count, climbs n l (pattern_lines_n bs - 1 - l) (omega arith), ap (number_of bs) e)

  of_pattern : (l : ℕ) → l < pattern_lines_n bs → OfPattern bs (pattern_line_at bs (pattern_offset bs l))
  of_pattern l h =
      let p = number_of bs l in
      record {
        number = λ n. omega (arith, patterns_long bs, number_below n l h);
        condition = λ below.
            (let listed = place_kept (λ j. condition_at bs (pattern_offset bs j)) (λ j. eqb (number_of bs j) p) 0 (pattern_lines_n bs) l (omega arith) (omega arith) (eq-eqb p p refl) in
            (listed.0, ap (λ cs. slice_get cs listed.0) (pattern_at bs p (omega (arith, patterns_long bs))) ∙ listed.1));
      }

  pub each_of_pattern : (l : ℕ) → IfSome (slice_get (pattern_lines_of bs) l) (OfPattern bs)
  each_of_pattern l = elim (cases_lt l (pattern_lines_n bs)) [
    | inl h ↦ rw (nth_counted (λ j. pattern_line_at bs (pattern_offset bs j)) (pattern_lines_n bs) l h) (of_pattern l h)
    | inr h ↦ rw (nth_counted_past (λ j. pattern_line_at bs (pattern_offset bs j)) (pattern_lines_n bs) l h) tt
  ]
