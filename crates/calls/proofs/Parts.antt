-- A line that is a word and what follows it.
use Rattle.std.proofs.Common.{◌≡◌, ℕ, List, ◌++◌, Some, None, Option, sym, ◌∙◌, subst}
use Rattle.std.proofs.lemmas.List.{append_cancel_left}
use Rattle.calls.specs.Numbers.{Finds}
use Rattle.calls.specs.Reading.{After}

-- what follows a word is one text
pub same_rest : (line word x y : List ℕ) → line ≡ word ++ x → line ≡ word ++ y → x ≡ y
same_rest line word x y p q = append_cancel_left word x y (sym p ∙ q)

-- what is found after the word is found in the rest
pub found_after : {X : Type 0} (P : X → List ℕ → Type 0) (line word rest : List ℕ) → line ≡ word ++ rest → (r : Option X) → Finds (λ x. P x rest) r → Finds (λ x. After word (P x) line) r
found_after P line word rest e (Some x) h = record { rest = rest; split = e; holds = h }
found_after P line word rest e None none =
    λ x a. none x (subst (P x) (same_rest line word a.rest rest a.split e) a.holds)
