-- Where a text is cut: at the line feeds, and at the blank between two numbers.
use Rattle.std.proofs.Common.{◌≡◌, ℕ, suc, ◌<◌, List, [], ◌∷◌, ◌++◌, Option, Some, None, MatchOption, Bor, length, get_or, drop, sym, refl, ap, ◌∙◌, subst, arith, ne_eqb}
use Rattle.std.specs.Option.{unwrap_or}
use Rattle.std.specs.Str.Parse.{AllDigits}
use Rattle.std.proofs.lemmas.List.{get_or_at, length-append}
use Rattle.std.proofs.lemmas.Str.Parse.{digit_at}
use Rattle.calls.specs.Lines.{lines_of, longer, Lacks, Cut}
use Rattle.calls.specs.Numbers.{Writes, WritesTwo}

lacks_rest : (byte b : ℕ) (bs : List ℕ) → Lacks byte (b ∷ bs) → Lacks byte bs
lacks_rest byte b bs none = λ i h. none (suc i) (omega arith)

grows_line : (b : ℕ) (bs : List ℕ) → (b ≡ 10 → ⊥) → lines_of (b ∷ bs) ≡ longer b (lines_of bs)
grows_line b bs ne = rw (ne_eqb b 10 ne)

-- a line goes up to the first line feed
pub line_to : (front rest : List ℕ) → Lacks 10 front → lines_of (front ++ (10 ∷ rest)) ≡ front ∷ lines_of rest
line_to [] rest none = refl
line_to (b ∷ bs) rest none =
    grows_line b (bs ++ (10 ∷ rest)) (none 0 (omega arith)) ∙ ap (longer b) (line_to bs rest (lacks_rest 10 b bs none))

-- the last line goes up to the end
pub last_line : (text : List ℕ) → 0 < length text → Lacks 10 text → lines_of text ≡ text ∷ []
last_line [] l none = absurd (omega arith)
last_line (b ∷ []) l none = grows_line b [] (none 0 (omega arith))
last_line (b ∷ c ∷ bs) l none =
    grows_line b (c ∷ bs) (none 0 (omega arith)) ∙ ap (longer b) (last_line (c ∷ bs) (omega arith) (lacks_rest 10 b (c ∷ bs) none))

-- there is one first place
pub same_cut : (byte : ℕ) (xs ys vs ws : List ℕ) → xs ++ (byte ∷ ys) ≡ vs ++ (byte ∷ ws) → Lacks byte xs → Lacks byte vs → (xs ≡ vs) × (ys ≡ ws)
same_cut byte [] ys [] ws e p q = (refl, ap (drop 1) e)
same_cut byte [] ys (v ∷ vs) ws e p q =
    absurd (q 0 (omega arith) (sym (ap (λ l. get_or l 0 0) e)))
same_cut byte (x ∷ xs) ys [] ws e p q = absurd (p 0 (omega arith) (ap (λ l. get_or l 0 0) e))
same_cut byte (x ∷ xs) ys (v ∷ vs) ws e p q =
    let rest = same_cut byte xs ys vs ws (ap (drop 1) e) (lacks_rest byte x xs p) (lacks_rest byte v vs q) in
    let head : x ≡ v = ap (λ l. get_or l 0 0) e in
    let tail = rest.0 in (cc, rest.1)

-- digits hold no blank
digits_lack : (ds : List ℕ) → AllDigits 10 ds → Lacks 32 ds
digits_lack ds d = λ i h e. omega (arith, digit_at ds i d h)

-- two numbers are those on both sides of the first blank
pub no_two : (text : List ℕ) → Lacks 32 text → (x : ℕ × ℕ) → WritesTwo 256 x.0 x.1 text → ⊥
no_two text none x w =
    none (length w.first) (omega (arith, ap length w.split, length-append w.first (32 ∷ w.second))) (ap (λ l. get_or l (length w.first) 0) w.split ∙ get_or_at w.first 32 w.second 0 (length w.first) refl)

pub same_two : (text front rest : List ℕ) → Cut 32 text front rest → (m n : ℕ) → WritesTwo 256 m n text → Writes 256 m front × Writes 256 n rest
same_two text front rest k m n w =
    let s = same_cut 32 w.first w.second front rest (sym w.split ∙ k.split) (digits_lack w.first w.writes_first.digits.1) k.first in
    (subst (Writes 256 m) s.0 w.writes_first, subst (Writes 256 n) s.1 w.writes_second)

-- the rest is shorter
pub cut_shorter : (byte : ℕ) (text front rest : List ℕ) → Cut byte text front rest → length rest < length text
cut_shorter byte text front rest k =
    omega (arith, ap length k.split, length-append front (byte ∷ rest))

-- the first line is what stands before the first line feed, or the whole text
pub first_cut : (text : List ℕ) (r : Option (Bor (List ℕ) × Bor (List ℕ))) (whole x : Bor (List ℕ) × Bor (List ℕ)) → 0 < length text → MatchOption r (Lacks 10 text) (λ y. Cut 10 text y.0.now y.1.now) → whole.0.now ≡ text → whole.1.now ≡ [] → x ≡ unwrap_or r whole → (lines_of text ≡ x.0.now ∷ lines_of x.1.now) × (length x.1.now < length text)
first_cut text (Some y) whole x some k a b e =
    rw e (ap lines_of k.split ∙ line_to y.0.now y.1.now k.first, cut_shorter 10 text y.0.now y.1.now k)
first_cut text None whole x some none a b e = rw (e, a, b) (last_line text some none, some)

-- digits write one number
pub same_number : (limit m n : ℕ) (ds : List ℕ) → Writes limit m ds → Writes limit n ds → m ≡ n
same_number limit m n ds p q = sym p.is ∙ q.is

pub same_numbers : (limit m a n b : ℕ) (text : List ℕ) → WritesTwo limit m a text → WritesTwo limit n b text → (m ≡ n) × (a ≡ b)
same_numbers limit m a n b text p q =
    let s = same_cut 32 p.first p.second q.first q.second (sym p.split ∙ q.split) (digits_lack p.first p.writes_first.digits.1) (digits_lack q.first q.writes_first.digits.1) in
    (same_number limit m n q.first (subst (Writes limit m) s.0 p.writes_first) q.writes_first, same_number limit a b q.second (subst (Writes limit a) s.1 p.writes_second) q.writes_second)
