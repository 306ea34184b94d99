use Rattle.std.proofs.Common.{◌≡◌, ℕ, ◌*◌, ◌<◌, sym, ◌∙◌, subst, inl, inr, arith}
use Rattle.std.proofs.lemmas.Bool.{cases_lt, cases_eq}
use Rattle.checker.proofs.Holding.{held_long}
use Rattle.checker.proofs.Ordered.{before_trans, before_not, same_sym, rises, same_record, room}
use Rattle.checker.proofs.Read.{records_long, record_at_lem}
use Rattle.checker.specs.Held.{record_in}
use Rattle.checker.specs.SetFile.{record_byte, byte_of, Before}
use Rattle.table.specs.Bytes.{word_at}
use Rattle.checker.proofs.state_set.StateSet.find.Goals as goal

pub compare-requires : goal.compare-requires
compare-requires c =
    let n = c.args.target.now.machines in
    let m = c.loop-low.middle in
    let i = c.loop-low.invariant in
    let lt : m < word_at c.args.self.now.bytes.now 10 = omega (arith, i.2 c.loop-low-test.true, i.3) in
    omega (arith, room (9 * n) m (word_at c.args.self.now.bytes.now 10) lt, c.requires.long)

pub loop-low-preserved-in-Less : goal.loop-low-preserved-in-Less
loop-low-preserved-in-Less c =
    let n = c.args.target.now.machines in
    let bs = c.args.self.now.bytes.now in
    let m = c.loop-low.middle in
    let i = c.loop-low.invariant in
    let w = i.2 c.loop-low-test.true in (
      omega (arith, w),
      c.farther-reach.ensures i.1,
      (λ h. (c.upwards-middle.ensures.low, c.upwards-middle.ensures.within h)),
      i.3,
      (λ j l. elim (cases_lt j m) [
        | inl lt ↦ before_trans (9 * n) (record_byte n bs j) (record_byte n bs m) (byte_of (record_in c.args.target.now)) (rises n bs c.requires.rising j m lt (omega (arith, w, i.3))) c.in-Less.ensures.order
        | inr ge ↦ (let e : m ≡ j = omega arith in subst (λ (z : ℕ). Before (9 * n) (record_byte n bs z) (byte_of (record_in c.args.target.now))) e c.in-Less.ensures.order)
      ]),
      i.5,
      inr c.in-Less.ensures.alike,
    )

pub returns-in-Equal : goal.returns-in-Equal
returns-in-Equal c =
    let n = c.args.target.now.machines in
    let bs = c.args.self.now.bytes.now in
    let m = c.loop-low.middle in
    let i = c.loop-low.invariant in
    let lt : m < word_at bs 10 = omega (arith, i.2 c.loop-low-test.true, i.3) in
    let q = c.in-Equal.ensures.order in
    (omega (arith, records_long n bs), record_at_lem n bs m lt ∙ same_record n bs m (record_in c.args.target.now) (held_long c.args.target.now) q.0 q.1)

pub loop-low-preserved : goal.loop-low-preserved
loop-low-preserved c =
    let n = c.args.target.now.machines in
    let bs = c.args.self.now.bytes.now in
    let m = c.loop-low.middle in
    let i = c.loop-low.invariant in
    let w = i.2 c.loop-low-test.true in (
      omega (arith, w),
      c.farther-reach.ensures i.1,
      (λ h. (c.downwards-middle.ensures.low, c.downwards-middle.ensures.within h)),
      omega (arith, w, i.3),
      i.4,
      (λ j l u. elim (cases_eq m j) [
        | inl e ↦ subst (λ (z : ℕ). Before (9 * n) (byte_of (record_in c.args.target.now)) (record_byte n bs z)) e c.in-Greater.ensures.order
        | inr ne ↦ before_trans (9 * n) (byte_of (record_in c.args.target.now)) (record_byte n bs m) (record_byte n bs j) c.in-Greater.ensures.order (rises n bs c.requires.rising m j (omega arith) u)
      ]),
      inr c.in-Greater.ensures.alike,
    )

pub returns : goal.returns
returns c =
    let n = c.args.target.now.machines in
    let bs = c.args.self.now.bytes.now in
    let i = c.loop-low.invariant in
    let r = record_in c.args.target.now in
    λ x.
    let j = x.0 in
    let lt : j < word_at bs 10 = omega (arith, x.1, records_long n bs) in
    elim i.6 [
      | inl none ↦ absurd (omega (arith, lt, none.0, none.1, c.loop-low-test.false))
      | inr alike ↦ (
          let same = alike j (sym (record_at_lem n bs j lt) ∙ x.2) in
          elim (cases_lt j c.loop-low.low) [
            | inl l ↦ before_not (9 * n) (record_byte n bs j) (byte_of r) (i.4 j l) same
            | inr g ↦ before_not (9 * n) (byte_of r) (record_byte n bs j) (i.5 j (omega arith) lt) (same_sym (9 * n) (record_byte n bs j) (byte_of r) same)
          ])
    ]
