use Rattle.std.proofs.Common.{◌≡◌, ℕ, ◌-◌, ◌*◌, length, sym, refl, ap, ◌∙◌, subst, inl, inr, arith}
use Rattle.std.proofs.lemmas.Bool.Decides.{not_from_Decides}
use Rattle.checker.proofs.Read.{record_at_lem, record_long}
use Rattle.checker.specs.Held.{record_in}
use Rattle.checker.specs.SetFile.{record_at, Before, record_byte}
use Rattle.table.specs.Layout.{machines_n}
use Rattle.checker.specs.Verdict.{record_parts, record_order}
use Rattle.checker.proofs.case.Case.form_record.Goals as goal

pub is_sound-requires : goal.is_sound-requires
is_sound-requires g c =
    let bs = c.args.self.now.set.bytes.now in
    let n = machines_n c.args.self.now.table.view.bytes.now in
    let e : record_in c.record-held.result ≡ record_at n bs c.args.k = c.record-held.ensures.is ∙ ap (λ (z : ℕ). record_at z bs c.args.k) c.machines.ensures in
    record {
      is = e ∙ sym (record_at_lem n bs c.args.k c.requires.below);
      machines = c.record-held.ensures.machines ∙ c.machines.ensures;
      sized = ap length e ∙ record_long n bs c.args.k;
    }

pub returns-then-not-is_sound : goal.returns-then-not-is_sound
returns-then-not-is_sound g c = record { finding = record_parts c.args.k; numbered = rw c.from.ensures at c.fault_at.ensures; first = inl (refl, not_from_Decides _ c.is_sound.ensures c.if-not-is_sound.true) }

pub returns-then-not-stands_above : goal.returns-then-not-stands_above
returns-then-not-stands_above g c =
    let bs = c.args.self.now.set.bytes.now in
    let n = machines_n c.args.self.now.table.view.bytes.now in
    let m : c.record-held.result.machines ≡ n = c.record-held.ensures.machines ∙ c.machines.ensures in
    let k = c.args.k in
    record {
      finding = record_order k;
      numbered = rw c.from-then-not-stands_above.ensures at c.fault_at-then-not-stands_above.ensures;
      first =
          inr (
            (λ no. no (c.is_sound.ensures.0 c.if-not-is_sound.false)),
            (refl, (omega arith, subst (λ (z : ℕ). Before (9 * z) (record_byte z bs (k - 1)) (record_byte z bs k) → ⊥) m (not_from_Decides _ c.stands_above.ensures c.if-not-stands_above.true))),
          );
    }
