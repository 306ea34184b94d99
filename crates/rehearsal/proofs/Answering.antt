-- The replies hold the reference controller's answers.
use Rattle.std.proofs.Common.{◌≡◌, ℕ, suc, ◌+◌, min, List, [], ◌∷◌, length, Result, refl, ap, ◌∙◌}
use Rattle.model.specs.declared.fault.Fault.{Fault}
use Rattle.model.specs.System.{System}
use Rattle.model.specs.State.{State, start}
use Rattle.controller.specs.declared.call.Answer.{Answer}
use Rattle.controller.specs.Reference.{answer, next, answers_to}
use Rattle.calls.specs.declared.line.Line.{Line}
use Rattle.calls.specs.declared.line.Line.TheVariants.{Skipped, Capacity, Call, NotUnderstood}
use Rattle.rehearsal.specs.declared.reply.Reply.{Reply}
use Rattle.rehearsal.specs.Laws.{calls_in, answers_in, capacity_in, spoken, Replied}
use Rattle.rehearsal.specs.Replies.{held, loaded, set_to}

answers_loaded : (S : System) (cap : ℕ) (s : State) (k : ℕ) (xs : List Line) → answers_in (loaded S cap s k xs) ≡ answers_to S cap s (calls_in xs)
answers_loaded S cap s k [] = refl
answers_loaded S cap s k (Skipped ∷ xs) = answers_loaded S cap s (k + 1) xs
answers_loaded S cap s k (Capacity n ∷ xs) = answers_loaded S cap s (k + 1) xs
answers_loaded S cap s k (Call c ∷ xs) =
    ap (λ (l : List (Result Answer Fault)). answer S cap s c ∷ l) (answers_loaded S cap (next S cap s c) (k + 1) xs)
answers_loaded S cap s k (NotUnderstood ∷ xs) = answers_loaded S cap s (k + 1) xs

answers_held : (S : System) (cap k : ℕ) (xs : List Line) → answers_in (held S cap k xs) ≡ answers_to S (capacity_in cap xs) (start S) (calls_in xs)
answers_held S cap k [] = refl
answers_held S cap k (Skipped ∷ xs) = answers_held S cap (k + 1) xs
answers_held S cap k (Capacity n ∷ xs) = answers_held S (set_to cap n) (k + 1) xs
answers_held S cap k (Call c ∷ xs) = answers_loaded S (min cap 32) (start S) k (Call c ∷ xs)
answers_held S cap k (NotUnderstood ∷ xs) = answers_held S cap (k + 1) xs

count_loaded : (S : System) (cap : ℕ) (s : State) (k : ℕ) (xs : List Line) → length (loaded S cap s k xs) ≡ length (spoken xs)
count_loaded S cap s k [] = refl
count_loaded S cap s k (Skipped ∷ xs) = count_loaded S cap s (k + 1) xs
count_loaded S cap s k (Capacity n ∷ xs) = ap suc (count_loaded S cap s (k + 1) xs)
count_loaded S cap s k (Call c ∷ xs) = ap suc (count_loaded S cap (next S cap s c) (k + 1) xs)
count_loaded S cap s k (NotUnderstood ∷ xs) = ap suc (count_loaded S cap s (k + 1) xs)

count_held : (S : System) (cap k : ℕ) (xs : List Line) → length (held S cap k xs) ≡ length (spoken xs)
count_held S cap k [] = refl
count_held S cap k (Skipped ∷ xs) = count_held S cap (k + 1) xs
count_held S cap k (Capacity n ∷ xs) = ap suc (count_held S (set_to cap n) (k + 1) xs)
count_held S cap k (Call c ∷ xs) = count_loaded S (min cap 32) (start S) k (Call c ∷ xs)
count_held S cap k (NotUnderstood ∷ xs) = ap suc (count_held S cap (k + 1) xs)

pub replied : (S : System) (cap : ℕ) (xs : List Line) (rs : List Reply) → rs ≡ held S cap 1 xs → Replied S cap xs rs
replied S cap xs rs e =
    record { each = e; count = ap length e ∙ count_held S cap 1 xs; answered = ap answers_in e ∙ answers_held S cap 1 xs }
