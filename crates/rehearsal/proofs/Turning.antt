-- One line after the other.
use Rattle.std.proofs.Common.{◌≡◌, ℕ, ◌+◌, ◌<◌, min, List, [], ◌∷◌, ◌++◌, length, get_or, drop, Option, sym, refl, ap, ◌∙◌, append_assoc}
use Rattle.std.specs.Option.{option_to_list}
use Rattle.std.proofs.lemmas.List.{drop_more}
use Rattle.model.specs.System.{System}
use Rattle.model.specs.State.{State, start}
use Rattle.calls.specs.declared.line.Line.{Line}
use Rattle.calls.specs.declared.line.Line.TheVariants.{Skipped, Capacity, Call, NotUnderstood}
use Rattle.rehearsal.specs.declared.reply.Reply.{Reply}
use Rattle.rehearsal.specs.Replies.{held, loaded}
use Rattle.rehearsal.specs.Turns.{make_reply, make_state}

loaded_one : (S : System) (cap : ℕ) (s : State) (k : ℕ) (x : Line) (xs : List Line) → loaded S cap s k (x ∷ xs) ≡ option_to_list (make_reply S cap s k x) ++ loaded S cap (make_state S cap s x) (k + 1) xs
loaded_one S cap s k Skipped xs = refl
loaded_one S cap s k (Capacity n) xs = refl
loaded_one S cap s k (Call c) xs = refl
loaded_one S cap s k NotUnderstood xs = refl

-- the line at a place
abbrev pub line_at : List Line → ℕ → Line
line_at xs i = get_or xs i Skipped

-- one reply more
joined : (old new : List Reply) (r q : Option Reply) (more : List Reply) → new ≡ old ++ option_to_list r → r ≡ q → new ++ more ≡ old ++ (option_to_list q ++ more)
joined old new r q more e p =
    ap (λ l. l ++ more) (e ∙ ap (λ o. old ++ option_to_list o) p) ∙ append_assoc old (option_to_list q) more

pub loaded_more : (S S1 : System) (cap cap1 : ℕ) (s t : State) (xs : List Line) (i k next : ℕ) (old new all : List Reply) (r : Option Reply) → next ≡ k + 1 → S1 ≡ S → cap1 ≡ cap → i < length xs → old ++ loaded S cap s k (drop i xs) ≡ all → r ≡ make_reply S1 cap1 s k (line_at xs i) → t ≡ make_state S1 cap1 s (line_at xs i) → new ≡ old ++ option_to_list r → new ++ loaded S cap t next (drop (i + 1) xs) ≡ all
loaded_more S S1 cap cap1 s t xs i k next old new all r ek eS ec h inv er et en =
    let x = line_at xs i in
    let q : r ≡ make_reply S cap s k x =
    er ∙ ap (λ T. make_reply T cap1 s k x) eS ∙ ap (λ n. make_reply S n s k x) ec in
    let u : t ≡ make_state S cap s x = et ∙ ap (λ T. make_state T cap1 s x) eS ∙ ap (λ n. make_state S n s x) ec in
    ap (λ n. new ++ loaded S cap t n (drop (i + 1) xs)) ek
    ∙ ap (λ v. new ++ loaded S cap v (k + 1) (drop (i + 1) xs)) u
    ∙ joined old new r (make_reply S cap s k x) (loaded S cap (make_state S cap s x) (k + 1) (drop (i + 1) xs)) en q
    ∙ ap (λ l. old ++ l) (sym (loaded_one S cap s k x (drop (i + 1) xs)))
    ∙ ap (λ l. old ++ loaded S cap s k l) (sym (drop_more xs i Skipped h))
    ∙ inv

-- the replies before the first call and those from it on
pub held_whole : (S S1 : System) (cap cap1 cap2 : ℕ) (s : State) (none before all : List Reply) (xs : List Line) (first : ℕ) → none ≡ [] → S1 ≡ S → cap2 ≡ min cap1 32 → s ≡ start S1 → ((T : System) → before ++ loaded T (min cap1 32) (start T) (first + 1) (drop first xs) ≡ none ++ held T cap 1 xs) → all ≡ before ++ loaded S1 cap2 s (first + 1) (drop first xs) → all ≡ held S cap 1 xs
held_whole S S1 cap cap1 cap2 s none before all xs first en eS ec es split e =
    e ∙ ap (λ n. before ++ loaded S1 n s (first + 1) (drop first xs)) ec
    ∙ ap (λ t. before ++ loaded S1 (min cap1 32) t (first + 1) (drop first xs)) es
    ∙ split S1
    ∙ ap (λ l. l ++ held S1 cap 1 xs) en
    ∙ ap (λ T. held T cap 1 xs) eS
