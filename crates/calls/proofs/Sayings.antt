-- A line says one thing at the most.
use Rattle.std.proofs.Common.{◌≡◌, ℕ, ◌+◌, ◌<◌, Option, Some, None, MatchOption, List, ◌∷◌, ◌++◌, get_or, codes, decimal, sym, refl, ap, ◌∙◌, subst, arith}
use Rattle.std.proofs.lemmas.Fmt.{decimal_is_IsNumeral}
use Rattle.controller.specs.declared.call.Call.{Call}
use Rattle.controller.specs.declared.call.Call.TheVariants.{Fire, Reset, Look}
use Rattle.calls.specs.declared.line.Line.{Line}
use Rattle.calls.specs.declared.line.Line.TheVariants.{Skipped, Capacity, Call as Asked, NotUnderstood}
use Rattle.calls.specs.Numbers.{Finds, Writes, WritesTwo}
use Rattle.calls.specs.Reading.{After, Asks, Says, Reads, InRange, written}
use Rattle.calls.proofs.Cuts.{same_number, same_numbers}
use Rattle.calls.proofs.Parts.{same_rest}

-- how far the byte that a line begins with, if it asks for this, is above 100
abbrev above : Call → ℕ
above (Fire r) = 2
above Reset = 14
above (Look m p) = 8

-- the byte that a line begins with, if it says this
abbrev letter : Line → ℕ
letter Skipped = 35
letter (Capacity n) = 99
letter (Asked call) = 100 + above call
letter NotUnderstood = 0

begins : (line : List ℕ) (s : Line) → Says line s → get_or line 0 35 ≡ letter s
begins line Skipped h = h
begins line (Capacity n) h = ap (λ l. get_or l 0 35) h.split
begins line (Asked (Fire r)) h = ap (λ l. get_or l 0 35) h.split
begins line (Asked Reset) h = ap (λ l. get_or l 0 35) h
begins line (Asked (Look m p)) h = ap (λ l. get_or l 0 35) h.split
begins line NotUnderstood h = absurd h

-- what follows a word is one text
same_after : (word line : List ℕ) (P Q : List ℕ → Type 0) (p : After word P line) (q : After word Q line) → P q.rest
same_after word line P Q p q =
    subst P (same_rest line word p.rest q.rest p.split q.split) p.holds

one : (line : List ℕ) (s t : Line) → Says line s → Says line t → letter s ≡ letter t → s ≡ t
one line Skipped Skipped p q e = refl
one line (Capacity m) (Capacity n) p q e =
    ap Capacity (same_number 256 m n q.rest (same_after (codes "capacity ") line (Writes 256 m) (Writes 256 n) p q) q.holds)
one line (Asked (Fire m)) (Asked (Fire n)) p q e =
    ap (λ r. Asked (Fire r)) (same_number 65536 m n q.rest (same_after (codes "fire ") line (Writes 65536 m) (Writes 65536 n) p q) q.holds)
one line (Asked Reset) (Asked Reset) p q e = refl
one line (Asked (Look m a)) (Asked (Look n b)) p q e =
    let s = same_numbers 256 m a n b q.rest (same_after (codes "look ") line (WritesTwo 256 m a) (WritesTwo 256 n b) p q) q.holds in
    let x = s.0 in
    let y = s.1 in cc
one line NotUnderstood NotUnderstood p q e = refl
one line _ _ p q e = absurd (omega arith)

pub says_one : (line : List ℕ) (s t : Line) → Says line s → Says line t → s ≡ t
says_one line s t p q = one line s t p q (sym (begins line s p) ∙ begins line t q)

-- what is not skipped, sets no capacity and asks for nothing says nothing
pub says_nothing : (line : List ℕ) → (Says line Skipped → ⊥) → ((n : ℕ) → Says line (Capacity n) → ⊥) → ((call : Call) → Says line (Asked call) → ⊥) → (other : Line) → Says line other → ⊥
says_nothing line skip capacity call Skipped h = skip h
says_nothing line skip capacity call (Capacity n) h = capacity n h
says_nothing line skip capacity call (Asked x) h = call x h
says_nothing line skip capacity call NotUnderstood h = h

-- a line that says something reads as that alone
pub reads_one : (line : List ℕ) (s : Line) → Says line s → (other : Line) → Reads line other → other ≡ s
reads_one line s h Skipped r = says_one line Skipped s r h
reads_one line s h (Capacity n) r = says_one line (Capacity n) s r h
reads_one line s h (Asked call) r = says_one line (Asked call) s r h
reads_one line s h NotUnderstood r = absurd (r s h)

-- a line that says nothing is not understood
pub reads_none : (line : List ℕ) → ((other : Line) → Says line other → ⊥) → (other : Line) → Reads line other → other ≡ NotUnderstood
reads_none line h Skipped r = absurd (h Skipped r)
reads_none line h (Capacity n) r = absurd (h (Capacity n) r)
reads_none line h (Asked call) r = absurd (h (Asked call) r)
reads_none line h NotUnderstood r = refl

-- what is no reset, no fire and no look asks for nothing
pub asks_nothing : (line : List ℕ) → (Asks line Reset → ⊥) → ((r : ℕ) → Asks line (Fire r) → ⊥) → ((x : ℕ × ℕ) → Asks line (Look x.0 x.1) → ⊥) → (call : Call) → Asks line call → ⊥
asks_nothing line reset fire look (Fire r) h = fire r h
asks_nothing line reset fire look Reset h = reset h
asks_nothing line reset fire look (Look m p) h = look (m, p) h

-- a number is read as it is written
writes_decimal : (limit n : ℕ) → n < limit → limit < 65537 → Writes limit n (decimal n)
writes_decimal limit n small top =
    let d = decimal_is_IsNumeral n (omega arith) in record { digits = d.0; is = d.1; small = small }

-- a call is read as it is written
pub asks_written : (call : Call) → InRange call → Asks (written call) call
asks_written (Fire r) small =
    record { rest = decimal r; split = refl; holds = writes_decimal 65536 r small (omega arith) }
asks_written Reset small = refl
asks_written (Look m p) small =
    record {
      rest = decimal m ++ (32 ∷ decimal p);
      split = refl;
      holds =
          record {
            first = decimal m;
            second = decimal p;
            split = refl;
            writes_first = writes_decimal 256 m small.0 (omega arith);
            writes_second = writes_decimal 256 p small.1 (omega arith);
          };
    }

-- a line in which a call is written reads as that call
pub reads_back : (line : List ℕ) (r : Line) → ((other : Line) → Reads line other → other ≡ r) → (call : Call) → InRange call → line ≡ written call → r ≡ Asked call
reads_back line r only call small e =
    sym (only (Asked call) (subst (λ (l : List ℕ). Asks l call) (sym e) (asks_written call small)))

reads_said : (line : List ℕ) (s : Line) → Says line s → Reads line s
reads_said line Skipped h = h
reads_said line (Capacity n) h = h
reads_said line (Asked call) h = h
reads_said line NotUnderstood h = absurd h

-- what is promised of a line that is read as s
abbrev Told : List ℕ → Line → Type 0
Told line s =
    record { reads : Reads line s; only : (other : Line) → Reads line other → other ≡ s; back : (call : Call) → InRange call → line ≡ written call → s ≡ Asked call }

-- of a line that says something, and of one that says nothing
pub said : (line : List ℕ) (s : Line) → Says line s → Told line s
said line s h =
    let only = reads_one line s h in
    record { reads = reads_said line s h; only = only; back = reads_back line s only }

unsaid : (line : List ℕ) → ((other : Line) → Says line other → ⊥) → Told line NotUnderstood
unsaid line h =
    let only = reads_none line h in
    record { reads = h; only = only; back = reads_back line NotUnderstood only }

-- what is not skipped and sets no capacity reads as the call that it asks for, if any
pub reads_call : (line : List ℕ) (found : Option Call) → (Says line Skipped → ⊥) → ((n : ℕ) → Says line (Capacity n) → ⊥) → Finds (Asks line) found → (s : Line) → MatchOption found (s ≡ NotUnderstood) (λ call. s ≡ Asked call) → Told line s
reads_call line (Some call) skip capacity h s is =
    subst (Told line) (sym is) (said line (Asked call) h)
reads_call line None skip capacity h s is =
    subst (Told line) (sym is) (unsaid line (says_nothing line skip capacity h))
