use Rattle.std.proofs.Common.{refl, inl, ⊎_elim, arith}
use Rattle.list_abstraction.specs.List.{unpack, list_code}
use Rattle.list_abstraction.specs.Meaning.{test_coded}
use Rattle.list_abstraction.proofs.Places.{append_held, append_new}
use Rattle.keep_first.specs.Kept.{append_up}
use Rattle.abstraction_laws.proofs.worked_values.Goals as goal

pub returns : goal.returns
returns c = record {
  list_of_repeating = refl;
  two_kept_of_repeating = refl;
  shared_code = (refl, refl);
  removals_of_list = refl;
  removals_of_one_kept = refl;
  removals_of_set = refl;
  removals_of_blank_one_kept = refl;
  append_listed = append_held 3 0x321 (unpack 8 0x321) (test_coded 3 0x321 refl) 0 (omega arith) (inl refl);
  append_unlisted = append_new 3 0x32 (unpack 8 0x32) (test_coded 3 0x32 refl) 0 (omega arith) (⊎_elim (λ p. omega arith) (⊎_elim (λ p. omega arith) (λ h. h)));
  append_to_one_kept = append_up 32 list_code 3 1 0 0 0 1 (record { some = omega arith; few = omega arith; narrow = omega arith }) (omega arith) (omega arith)
      (append_new 3 0 (unpack 8 0) (test_coded 3 0 refl) 0 (omega arith) (λ h. h));
}
