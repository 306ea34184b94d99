-- Values worked by hand, with three events. Assumes nothing.
use Rattle.std.specs.Prelude.{◌≡◌, ℕ, List, [], ◌∷◌, Some}
use Rattle.abstraction.specs.Meaning.{Appended}
use Rattle.blank_abstraction.specs.Blank.{blank_code, blank_removals}
use Rattle.set_abstraction.specs.Set.{set_removals}
use Rattle.list_abstraction.specs.List.{list_code, list_removals}
use Rattle.keep_first.specs.KeepFirst.{keep_bits, keep_code, keep_removals}

-- the list under one layer, and under two
abbrev pub one_kept : ℕ → List ℕ → ℕ
one_kept = keep_code list_code

abbrev pub two_kept : ℕ → List ℕ → ℕ
two_kept = keep_code one_kept

abbrev pub repeating : List ℕ
repeating = 0 ∷ 0 ∷ 0 ∷ 1 ∷ 2 ∷ 2 ∷ 2 ∷ 2 ∷ []

pub record Worked : Type 0 where
  pub list_of_repeating : list_code 3 repeating ≡ 0x321
  pub two_kept_of_repeating : two_kept 3 repeating ≡ 0x32111
  -- two queues that share a code
  pub shared_code : (two_kept 3 (1 ∷ 1 ∷ 1 ∷ 1 ∷ 0 ∷ []) ≡ 0x1222) × (two_kept 3 (1 ∷ 1 ∷ 1 ∷ 0 ∷ 0 ∷ []) ≡ 0x1222)
  pub removals_of_list : list_removals 3 0x321 ≡ (0, 0x32) ∷ (0, 0x321) ∷ (0, 0x312) ∷ (0, 0x132) ∷ []
  pub removals_of_one_kept : keep_removals 32 list_code list_removals 3 0x3211 ≡ (0, 0x321) ∷ (0, 0x3211) ∷ (0, 0x3121) ∷ (0, 0x1321) ∷ []
  pub removals_of_set : set_removals 3 5 ≡ (0, 4) ∷ (0, 5) ∷ (2, 1) ∷ (2, 5) ∷ []
  pub removals_of_blank_one_kept : keep_removals 0 blank_code blank_removals 3 1 ≡ (0, 0) ∷ (0, 1) ∷ (0, 2) ∷ (0, 3) ∷ []
  pub append_listed : Appended 32 list_code 3 0x321 0 (Some 0x321)
  pub append_unlisted : Appended 32 list_code 3 0x32 0 (Some 0x132)
  pub append_to_one_kept : Appended (keep_bits 32) one_kept 3 1 0 (Some 0x11)
