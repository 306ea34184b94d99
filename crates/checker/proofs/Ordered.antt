-- Runs of bytes in order, and the records that they are. Assumes nothing.
use Rattle.std.proofs.Common.{◌≡◌, ℕ, zero, suc, ◌+◌, ◌-◌, ◌*◌, ◌/◌, ◌%◌, ◌^◌, ◌<◌, ◌≤◌, Bool, cond, List, length, get_or, sym, refl, ap, ◌∙◌, subst, inl, inr, arith, Ordering, nat_cmp}
use Rattle.std.specs.Ordering.{MatchOrdering}
use Rattle.std.specs.declared.cmp.Ordering.TheVariants.{Less, Equal, Greater}
use Rattle.std.specs.Cmp.{ranks}
use Rattle.std.specs.Slice.Scan.{digits_from}
use Rattle.std.proofs.Math.Nat.{div-div-eq-div-mul}
use Rattle.std.proofs.lemmas.Nat.{pow-add, column_fits}
use Rattle.std.proofs.lemmas.Bool.{cases_lt, cases_eq, ne_eqb}
use Rattle.std.proofs.lemmas.List.FromFn.{fill_by_all, get_or-map-range_with_len}
use Rattle.checker.specs.SetFile.{record_byte, entry_byte, byte_of, byte_in, Before, Same, long_at, record_at}
use Rattle.closed_sets.specs.Records.{Record, code_in, local_in}
use Rattle.table.specs.Bytes.{word_at}

pub before_trans : (z : ℕ) (f g h : ℕ → ℕ) → Before z f g → Before z g h → Before z f h
before_trans z f g h (a, la, ea, fa) (b, lb, eb, gb) = elim (cases_lt a b) [
  | inl lt ↦ (a, la, (λ t l. ea t l ∙ eb t (omega arith)), omega (arith, eb a lt))
  | inr ge ↦ elim (cases_eq a b) [
    | inl e ↦ (a, la, (λ t l. ea t l ∙ eb t (omega arith)), omega (arith, subst (λ (x : ℕ). g x < h x) (sym e) gb))
    | inr ne ↦ (b, lb, (λ t l. ea t (omega arith) ∙ eb t l), omega (arith, ea b (omega arith)))
  ]
]

pub before_not : (z : ℕ) (f g : ℕ → ℕ) → Before z f g → Same z f g → ⊥
before_not z f g (j, l, e, lt) s = omega (arith, s j l)

pub same_sym : (z : ℕ) (f g : ℕ → ℕ) → Same z f g → Same z g f
same_sym z f g s t l = sym (s t l)

module _ (n : ℕ) (bs : List ℕ) (rising : (k : ℕ) → k + 1 < word_at bs 10 → Before (9 * n) (record_byte n bs k) (record_byte n bs (k + 1))) where
  steps_on : (k d : ℕ) → k + d + 1 < word_at bs 10 → Before (9 * n) (record_byte n bs k) (record_byte n bs (k + d + 1))
  steps_on k zero h = subst (λ (x : ℕ). Before (9 * n) (record_byte n bs k) (record_byte n bs x)) (omega arith) (rising k (omega arith))
  steps_on k (suc d) h =
      let e : k + d + 1 + 1 ≡ k + suc d + 1 = omega arith in
      before_trans (9 * n) (record_byte n bs k) (record_byte n bs (k + d + 1)) (record_byte n bs (k + suc d + 1)) (steps_on k d (omega arith))
      (subst (λ (x : ℕ). Before (9 * n) (record_byte n bs (k + d + 1)) (record_byte n bs x)) e (rising (k + d + 1) (omega arith)))

  pub rises : (j k : ℕ) → j < k → k < word_at bs 10 → Before (9 * n) (record_byte n bs j) (record_byte n bs k)
  rises j k l h =
      let e : j + (k - j - 1) + 1 ≡ k = omega arith in
      subst (λ (x : ℕ). Before (9 * n) (record_byte n bs j) (record_byte n bs x)) e (steps_on j (k - j - 1) (omega arith))

-- byte t of a code, the low byte first
abbrev pub digit : ℕ → ℕ → ℕ
digit c t = c / 2 ^ (8 * t) % 256

-- behind its local state an entry has the bytes of its code
byte_behind : (l c t : ℕ) → byte_in (l, c) (suc t) ≡ digit c t
byte_behind l c t =
    ap (λ (b : Bool). cond b l (c / 2 ^ (8 * (suc t - 1)) % 256)) (ne_eqb (suc t) 0 (λ e. absurd (omega arith)))
    ∙ (let q : suc t - 1 ≡ t = omega arith in ap (digit c) q)

-- a number of n bytes, the low byte first, has its byte t at place t
digit_from : (f : ℕ → ℕ) → ((t : ℕ) → f t < 256) → (n k t : ℕ) → t < n → digits_from f k n / 2 ^ (8 * t) % 256 ≡ f (k + t)
digit_from f h zero k t l = absurd (omega arith)
digit_from f h (suc n) k zero l = let e : k ≡ k + 0 = omega arith in omega (arith, h k, ap f e)
digit_from f h (suc n) k (suc t) l =
    let r = digits_from f (suc k) n in
    let half : (f k + 256 * r) / 256 ≡ r = omega (arith, h k) in
    let e : 8 * suc t ≡ 8 + 8 * t = omega arith in
    let p : 2 ^ (8 * suc t) ≡ 256 * 2 ^ (8 * t) = ap (λ (z : ℕ). 2 ^ z) e ∙ pow-add 2 8 (8 * t) in
    let q : suc k + t ≡ k + suc t = omega arith in
    ap (λ (z : ℕ). (f k + 256 * r) / z % 256) p
    ∙ ap (λ (z : ℕ). z % 256) (sym (div-div-eq-div-mul (f k + 256 * r) 256 (2 ^ (8 * t))))
    ∙ ap (λ (z : ℕ). z / 2 ^ (8 * t) % 256) half
    ∙ digit_from f h n (suc k) t (omega arith)
    ∙ ap f q

digits_same : (f g : ℕ → ℕ) (n k : ℕ) → ((t : ℕ) → k ≤ t → t < k + n → f t ≡ g t) → digits_from f k n ≡ digits_from g k n
digits_same f g zero k h = refl
digits_same f g (suc n) k h = omega (arith, h k (omega arith) (omega arith), digits_same f g n (suc k) (λ t a b. h t (omega arith) (omega arith)))

-- a code is the number of its bytes
digits_of : (c : ℕ) → c < 2 ^ 64 → digits_from (digit c) 0 8 ≡ c
digits_of c h = omega arith

long_digits : (bs : List ℕ) (o : ℕ) → long_at bs o ≡ digits_from (λ t. get_or bs (o + t) 0) 0 8
long_digits bs o = let e : o ≡ o + 0 = omega arith in omega (arith, ap (λ (z : ℕ). get_or bs z 0) e)

long_small : (bs : List ℕ) → ((i : ℕ) → get_or bs i 0 < 256) → (o : ℕ) → long_at bs o < 2 ^ 64
long_small bs bytes o = omega (arith, bytes o, bytes (o + 1), bytes (o + 2), bytes (o + 3), bytes (o + 4), bytes (o + 5), bytes (o + 6), bytes (o + 7))

-- byte s of the entry that stands at o
module _ (bs : List ℕ) (bytes : (i : ℕ) → get_or bs i 0 < 256) where
  pub byte_is : (o s : ℕ) → s < 9 → get_or bs (o + s) 0 ≡ byte_in (get_or bs o 0, long_at bs (o + 1)) s
  byte_is o zero h = ap (λ (z : ℕ). get_or bs z 0) (omega arith)
  byte_is o (suc t) h =
      let e : o + suc t ≡ o + 1 + (0 + t) = omega arith in
      ap (λ (z : ℕ). get_or bs z 0) e
      ∙ sym (digit_from (λ j. get_or bs (o + 1 + j) 0) (λ j. bytes (o + 1 + j)) 8 0 t (omega arith))
      ∙ ap (λ (z : ℕ). digit z t) (sym (long_digits bs (o + 1)))
      ∙ sym (byte_behind (get_or bs o 0) (long_at bs (o + 1)) t)

module _ (n : ℕ) (bs : List ℕ) (k : ℕ) (r : Record) where
  -- byte s of machine i
  pub byte_of_lem : (i s : ℕ) → s < 9 → byte_of r (9 * i + s) ≡ byte_in (get_or r i (0, 0)) s
  byte_of_lem i s h =
      let d : (9 * i + s) / 9 ≡ i = omega arith in
      let m : (9 * i + s) % 9 ≡ s = omega arith in
      ap (λ (z : ℕ). byte_in (get_or r z (0, 0)) ((9 * i + s) % 9)) d ∙ ap (byte_in (get_or r i (0, 0))) m

  -- where entry i of the record stands
  pub entry_there : (i o : ℕ) → o ≡ 16 + 9 * n * k + 9 * i → (s : ℕ) → s < 9 → record_byte n bs k (9 * i + s) ≡ entry_byte bs o s
  entry_there i o at s h = let e : 16 + 9 * n * k + (9 * i + s) ≡ o + s = omega arith in ap (λ (z : ℕ). get_or bs z 0) e

  -- where what it says of machine i is known
  pub entry_here : (i : ℕ) (p : ℕ × ℕ) → p ≡ get_or r i (0, 0) → (s : ℕ) → s < 9 → byte_of r (9 * i + s) ≡ byte_in p s
  entry_here i p is s h = byte_of_lem i s h ∙ ap (λ (z : ℕ × ℕ). byte_in z s) (sym is)

  module _ (i : ℕ) (h : i < n) (same : Same (9 * n) (record_byte n bs k) (byte_of r)) where
    place : (s o : ℕ) → s < 9 → 16 + 9 * n * k + (9 * i + s) ≡ o → get_or bs o 0 ≡ byte_in (get_or r i (0, 0)) s
    place s o l e = ap (λ (z : ℕ). get_or bs z 0) (sym e) ∙ same (9 * i + s) (omega arith) ∙ byte_of_lem i s l

    long_is : code_in r i < 2 ^ 64 → long_at bs (16 + 9 * n * k + 9 * i + 1) ≡ code_in r i
    long_is small =
        let o = 16 + 9 * n * k + 9 * i + 1 in
        long_digits bs o
        ∙ digits_same (λ t. get_or bs (o + t) 0) (digit (code_in r i)) 8 0 (λ t a b. place (suc t) (o + t) (omega arith) (omega arith) ∙ byte_behind (local_in r i) (code_in r i) t)
        ∙ digits_of (code_in r i) small

    entry_same : code_in r i < 2 ^ 64 → get_or r i (0, 0) ≡ (get_or bs (16 + 9 * n * k + 9 * i) 0, long_at bs (16 + 9 * n * k + 9 * i + 1))
    entry_same small =
        ap (λ (z : ℕ). (z, code_in r i)) (sym (place 0 (16 + 9 * n * k + 9 * i) (omega arith) (omega arith)))
        ∙ ap (λ (z : ℕ). (get_or bs (16 + 9 * n * k + 9 * i) 0, z)) (sym (long_is small))

  pub same_record : length r ≡ n → Same (9 * n) (record_byte n bs k) (byte_of r) → ((t : ℕ) → t < 9 * n → code_in r (t / 9) < 2 ^ 64) → record_at n bs k ≡ r
  same_record len same small =
      sym (fill_by_all (λ i. (get_or bs (16 + 9 * n * k + 9 * i) 0, long_at bs (16 + 9 * n * k + 9 * i + 1))) r n (0, 0) len
      (λ i h. entry_same i h same (let e : 9 * i / 9 ≡ i = omega arith in subst (λ (z : ℕ). code_in r z < 2 ^ 64) e (small (9 * i) (omega arith)))))

  -- a record that is the same has the same bytes
  module _ (bytes : (i : ℕ) → get_or bs i 0 < 256) (is : record_at n bs k ≡ r) where
    entry_of : (i : ℕ) → i < n → get_or r i (0, 0) ≡ (get_or bs (16 + 9 * n * k + 9 * i) 0, long_at bs (16 + 9 * n * k + 9 * i + 1))
    entry_of i h = ap (λ (z : Record). get_or z i (0, 0)) (sym is) ∙ get_or-map-range_with_len (λ i. (get_or bs (16 + 9 * n * k + 9 * i) 0, long_at bs (16 + 9 * n * k + 9 * i + 1))) 0 n i i (0, 0) h (omega arith)

    pub same_bytes : Same (9 * n) (record_byte n bs k) (byte_of r)
    same_bytes t h =
        let i = t / 9 in
        let s = t % 9 in
        let o = 16 + 9 * n * k + 9 * (t / 9) in
        let e : 16 + 9 * n * k + t ≡ o + t % 9 = omega arith in
        ap (λ (z : ℕ). get_or bs z 0) e ∙ byte_is bs bytes o (t % 9) (omega arith) ∙ ap (λ (z : ℕ × ℕ). byte_in z (t % 9)) (sym (entry_of (t / 9) (omega arith)))

-- a record lies within the set
pub room : (a m c : ℕ) → m < c → a * m + a ≤ a * c
room a m c h = column_fits a m a c h (omega arith)

-- a run that is the same stands where the other does
pub before_right : (z : ℕ) (f g h : ℕ → ℕ) → Before z f g → Same z h g → Before z f h
before_right z f g h (j, l, e, lt) s = (j, l, (λ t b. e t b ∙ sym (s t (omega arith))), omega (arith, s j l))

-- the number of the first n bytes, the first the highest
abbrev pub number : ℕ → (ℕ → ℕ) → ℕ
number zero f = 0
number (suc n) f = number n f * 256 + f n

module _ (f g : ℕ → ℕ) (hf : (t : ℕ) → f t < 256) (hg : (t : ℕ) → g t < 256) where
  pub number_same : (n : ℕ) → number n f ≡ number n g → Same n f g
  number_same (suc n) e t l = elim (cases_lt t n) [
    | inl lt ↦ number_same n (omega (arith, hf n, hg n, e)) t lt
    | inr ge ↦ (let q : n ≡ t = omega arith in subst (λ (z : ℕ). f z ≡ g z) q (omega (arith, hf n, hg n, e)))
  ]
  number_same zero e t l = absurd (omega arith)

  pub number_before : (n : ℕ) → number n f < number n g → Before n f g
  number_before zero h = absurd (omega arith)
  number_before (suc n) h = elim (cases_lt (number n f) (number n g)) [
    | inl lt ↦ (let b = number_before n lt in (b.0, omega (arith, b.1), b.2, b.3))
    | inr ge ↦ (n, omega arith, number_same n (omega (arith, hf n, hg n, h)), omega (arith, hf n, hg n, h))
  ]

digit_small : (c t : ℕ) → digit c t < 256
digit_small c t = omega arith

-- a code read with its first byte the highest
unfoldable pub swapped : ℕ → ℕ
swapped c = c % 256 * 72057594037927936 + c / 256 % 256 * 281474976710656 + c / 65536 % 256 * 1099511627776 + c / 16777216 % 256 * 4294967296 + c / 4294967296 % 256 * 16777216 + c / 1099511627776 % 256 * 65536 + c / 281474976710656 % 256 * 256 + c / 72057594037927936 % 256

swapped_is : (c : ℕ) → swapped c ≡ number 8 (digit c)
unfolding swapped
swapped_is c = omega arith

module _ (a b : ℕ) where
  pub swapped_before : swapped a < swapped b → Before 8 (digit a) (digit b)
  swapped_before h = number_before (digit a) (digit b) (digit_small a) (digit_small b) 8 (subst (λ (z : ℕ). z < number 8 (digit b)) (swapped_is a) (subst (λ (z : ℕ). swapped a < z) (swapped_is b) h))

  pub swapped_same : a < 2 ^ 64 → b < 2 ^ 64 → swapped a ≡ swapped b → a ≡ b
  swapped_same ha hb e =
      let s = number_same (digit a) (digit b) (digit_small a) (digit_small b) 8 (sym (swapped_is a) ∙ e ∙ swapped_is b) in
      sym (digits_of a ha) ∙ digits_same (digit a) (digit b) 8 0 (λ t l u. s t u) ∙ digits_of b hb

-- entries with one local state stand as their codes do
pub codes_before : (l m a b : ℕ) → l ≡ m → Before 8 (digit a) (digit b) → Before 9 (byte_in (l, a)) (byte_in (m, b))
codes_before l m a b e (j, lt, same, less) = (suc j, omega arith, alike, omega (arith, byte_behind l a j, byte_behind m b j))
  where
    alike : (t : ℕ) → t < suc j → byte_in (l, a) t ≡ byte_in (m, b) t
    alike zero h = e
    alike (suc t) h = byte_behind l a t ∙ same t (omega arith) ∙ sym (byte_behind m b t)

-- a run that is the same stands where the other does
pub before_left : (z : ℕ) (f g h : ℕ → ℕ) → Before z f g → Same z h f → Before z h g
before_left z f g h (j, l, e, lt) s = (j, l, (λ t b. s t (omega arith) ∙ e t b), omega (arith, s j l))

-- where the entries before are the same, records stand as the next entries do
module _ (n i : ℕ) (f g p q : ℕ → ℕ) (h : i < n) (same : Same (9 * i) f g) (fp : (s : ℕ) → s < 9 → f (9 * i + s) ≡ p s) (gq : (s : ℕ) → s < 9 → g (9 * i + s) ≡ q s) where
  pub same_on : Same 9 p q → Same (9 * (i + 1)) f g
  same_on e t l = elim (cases_lt t (9 * i)) [
    | inl lt ↦ same t lt
    | inr ge ↦ (let k : 9 * i + (t - 9 * i) ≡ t = omega arith in subst (λ (z : ℕ). f z ≡ g z) k (fp (t - 9 * i) (omega arith) ∙ e (t - 9 * i) (omega arith) ∙ sym (gq (t - 9 * i) (omega arith))))
  ]

  pub before_on : Before 9 p q → Before (9 * n) f g
  before_on (j, l, e, less) = (9 * i + j, omega arith, alike, omega (arith, fp j l, gq j l))
    where
      alike : (t : ℕ) → t < 9 * i + j → f t ≡ g t
      alike t b = elim (cases_lt t (9 * i)) [
        | inl lt ↦ same t lt
        | inr ge ↦ (let k : 9 * i + (t - 9 * i) ≡ t = omega arith in subst (λ (z : ℕ). f z ≡ g z) k (fp (t - 9 * i) (omega arith) ∙ e (t - 9 * i) (omega arith) ∙ sym (gq (t - 9 * i) (omega arith))))
      ]

-- the entry that stands at o and another, compared by their local states and then by their codes, read with the first byte the highest
module _ (bs : List ℕ) (bytes : (i : ℕ) → get_or bs i 0 < 256) (o m b : ℕ) (small : b < 2 ^ 64) where
  abbrev pub Stands : Ordering → Type 0
  Stands x = MatchOrdering x (Before 9 (entry_byte bs o) (byte_in (m, b))) (Same 9 (entry_byte bs o) (byte_in (m, b)) × (b < 2 ^ 64)) (Before 9 (byte_in (m, b)) (entry_byte bs o))

  by_code : (x : Ordering) → get_or bs o 0 ≡ m → MatchOrdering x (swapped (long_at bs (o + 1)) < swapped b) (swapped (long_at bs (o + 1)) ≡ swapped b) (swapped b < swapped (long_at bs (o + 1))) → Stands x
  by_code Less e h = before_left 9 (byte_in (get_or bs o 0, long_at bs (o + 1))) (byte_in (m, b)) (entry_byte bs o) (codes_before (get_or bs o 0) m (long_at bs (o + 1)) b e (swapped_before (long_at bs (o + 1)) b h)) (byte_is bs bytes o)
  by_code Equal e h = ((λ t l. byte_is bs bytes o t l ∙ ap (λ (z : ℕ). byte_in (z, long_at bs (o + 1)) t) e ∙ ap (λ (z : ℕ). byte_in (m, z) t) (swapped_same (long_at bs (o + 1)) b (long_small bs bytes (o + 1)) small h)), small)
  by_code Greater e h = before_right 9 (byte_in (m, b)) (byte_in (get_or bs o 0, long_at bs (o + 1))) (entry_byte bs o) (codes_before m (get_or bs o 0) b (long_at bs (o + 1)) (sym e) (swapped_before b (long_at bs (o + 1)) h)) (byte_is bs bytes o)

  first : entry_byte bs o 0 ≡ get_or bs o 0
  first = ap (λ (z : ℕ). get_or bs z 0) (omega arith)

  first_in : byte_in (m, b) 0 ≡ m
  first_in = refl

  by_local : (x : Ordering) → (x ≡ Equal → ⊥) → MatchOrdering x (get_or bs o 0 < m) (get_or bs o 0 ≡ m) (m < get_or bs o 0) → Stands x
  by_local Less ne h = (0, omega arith, (λ t l. absurd (omega (arith, l))), omega (arith, h, first, first_in))
  by_local Equal ne h = absurd (ne refl)
  by_local Greater ne h = (0, omega arith, (λ t l. absurd (omega (arith, l))), omega (arith, h, first, first_in))

  abbrev Ranked : ℕ → ℕ → Ordering → Type 0
  Ranked y z x = MatchOrdering x (y < z) (y ≡ z) (z < y)

  -- where the local states are the same, the codes say
  pub codes_stand : (x : Ordering) → nat_cmp (get_or bs o 0) m ≡ Equal → x ≡ nat_cmp (swapped (long_at bs (o + 1))) (swapped b) → Stands x
  codes_stand x e h = by_code x (subst (Ranked (get_or bs o 0) m) e (ranks (get_or bs o 0) m)) (subst (Ranked (swapped (long_at bs (o + 1))) (swapped b)) (sym h) (ranks (swapped (long_at bs (o + 1))) (swapped b)))

  pub locals_stand : (x : Ordering) → (x ≡ Equal → ⊥) → x ≡ nat_cmp (get_or bs o 0) m → Stands x
  locals_stand x ne h = by_local x ne (subst (Ranked (get_or bs o 0) m) (sym h) (ranks (get_or bs o 0) m))

-- an answer that is not Equal is one of the other two
pub apart : {P P' R R' : Type 0} (Q Q' : Type 0) (x : Ordering) → (x ≡ Equal → ⊥) → (P → P') → (R → R') → MatchOrdering x P Q R → MatchOrdering x P' Q' R'
apart Q Q' Less ne f g h = f h
apart Q Q' Equal ne f g h = absurd (ne refl)
apart Q Q' Greater ne f g h = g h
