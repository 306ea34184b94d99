-- The values of a fault fit their places. Assumes nothing.
use Rattle.std.proofs.Common.{◌≡◌, ℕ, zero, suc, ◌+◌, ◌-◌, ◌*◌, ◌/◌, ◌%◌, ◌^◌, ◌<◌, ◌≤◌, Bool, true, false, cond, ◌&&◌, eqb, ltb, leb, List, [], ◌∷◌, map, length, sym, refl, subst, inl, inr, Result, Ok, Err, IfErr, arith, length-append}
use lib.ListN.{length-map}
use Rattle.std.proofs.lemmas.Bool.{cond_both, leb-true, and_parts}
use Rattle.std.proofs.lemmas.List.FromFn.{length-map-range_with_len}
use Rattle.model.specs.declared.fault.Fault.{Fault}
use Rattle.model.specs.declared.fault.Refusal.{Refusal}
use Rattle.model.specs.declared.rule.Action.{Action}
use Rattle.model.specs.declared.rule.Action.TheVariants.{Local, Take, Send}
use Rattle.model.specs.declared.rule.Rule.{Rule}
use Rattle.model.specs.System.{rule_of}
use Rattle.model.specs.Queue.{present}
use Rattle.model.specs.Order.{Order, one, ◌then◌, each, First, FirstFault}
use Rattle.table.specs.Bytes.{byte_at, word_at}
use Rattle.table.specs.Header.{fault_at}
use Rattle.table.specs.Layout.{machines_n, pattern_lines_n, machine_offset, rule_offset, pattern_offset}
use Rattle.table.specs.SystemOf.{system_of, pattern_count}
use Rattle.table.proofs.Parts.{machines_long, rules_long, patterns_long}
use Rattle.blank_abstraction.specs.Blank.{blank_good, each_event}
use Rattle.set_abstraction.specs.Set.{absent, set_from, set_good}
use Rattle.list_abstraction.specs.List.{unpack, pack, insertions, removals_of, list_good}
use Rattle.keep_first.specs.KeepFirst.{begun, keep_bits, kept, keep_taken}
use Rattle.closed_sets.specs.Records.{Record, record_of}
use Rattle.closed_sets.specs.Judging.{outcomes}
use Rattle.checker.specs.declared.pass.Pass.{Pass}
use Rattle.checker.specs.Promise.{Checked}
use Rattle.checker.specs.Verdict.{Applies, numbers, order}
use Rattle.checker.proofs.Read.{records_long}
use Rattle.queue_check.specs.Layers.{Layers, list, mask, blank, keeping, of_kind, under, named, claim_under}
use Rattle.queue_check.specs.Packed.{Fits}

-- what holds of every finding of an order holds of the first that applies
module _ {F : Type 0} (P : F → Type 0) where
  abbrev pub AllOf : Order F → Type 0
  AllOf (one f) = P f
  AllOf (x then y) = AllOf x × AllOf y
  AllOf (each n g) = (i : ℕ) → i < n → AllOf (g i)

  pub first_all : (A : F → Type 0) (o : Order F) (f : F) → First A o f → AllOf o → P f
  first_all A (one g) f h all = subst P (sym h.0) all
  first_all A (x then y) f (inl h) all = first_all A x f h all.0
  first_all A (x then y) f (inr h) all = first_all A y f h.1 all.1
  first_all A (each n g) f (i, l, h, b) all = first_all A (g i) f h (all i l)

-- how many removals a code has at the most
abbrev pub Few : ℕ → Layers → Type 0
Few n L = (m c : ℕ) → length (L.removals m c) ≤ n

cond_few : {X : Type 0} (n : ℕ) (b : Bool) (xs : List X) → (b ≡ true → length xs ≤ n) → length (cond b xs []) ≤ n
cond_few n b xs h = cond_both b xs [] (λ l. length l ≤ n) h (λ _. omega arith)

-- the second of three tests
second : (x y z : Bool) → (x && y && z) ≡ true → y ≡ true
second x y z e = (and_parts x y (and_parts (x && y) z e).0).1

blank_few : Few 16 blank
blank_few m c = cond_few 16 (blank_good m c) (each_event m)
    (λ e. let f : ℕ → ℕ × ℕ = λ v. (v, 0) in omega (arith, length-map-range_with_len f 0 m, leb-true m 8 (second (leb 1 m) (leb m 8) (eqb c 0) e)))

from_few : (c e n : ℕ) → length (set_from c e n) ≤ 2 * n
from_few c e zero = omega arith
from_few c e (suc n) =
    let rest = from_few c (e + 1) n in
    let both : List (ℕ × ℕ) = (e, absent c e) ∷ (e, c) ∷ [] in
    omega (arith, length-append (cond (present c e) both []) (set_from c (e + 1) n), cond_few 2 (present c e) both (λ _. omega arith))

mask_few : Few 16 mask
mask_few m c = cond_few 16 (set_good m c) (set_from c 0 m) (λ e. omega (arith, from_few c 0 m, leb-true m 8 (second (leb 1 m) (leb m 8) (ltb c (2 ^ m)) e)))

unpack_few : (n c : ℕ) → length (unpack n c) ≤ n
unpack_few zero c = omega arith
unpack_few (suc n) c = cond_both (eqb (c % 16) 0) [] ((c % 16 - 1) ∷ unpack n (c / 16)) (λ l. length l ≤ suc n) (λ _. omega arith) (λ _. omega (arith, unpack_few n (c / 16)))

insertions_few : (e : ℕ) (L : List ℕ) → length (insertions e L) ≤ length L + 1
insertions_few e [] = omega arith
insertions_few e (f ∷ L) = omega (arith, length-map (insertions e L) (λ (R : List ℕ). f ∷ R), insertions_few e L)

removals_few : (L : List ℕ) → length (removals_of L) ≤ length L + 1
removals_few [] = omega arith
removals_few (e ∷ L) =
    let f : List ℕ → ℕ × ℕ = λ R. (e, pack R) in
    omega (arith, length-map (L ∷ insertions e L) f, insertions_few e L)

list_few : Few 16 list
list_few m c = cond_few 16 (list_good m c) (removals_of (unpack 8 c)) (λ _. omega (arith, removals_few (unpack 8 c), unpack_few 8 c))

keeping_few : (n : ℕ) (L : Layers) → Few n L → Few (n + 1) (keeping L)
keeping_few n L f m c =
    let e = c % 16 - 1 in
    let b = c / 16 in
    let none : List (ℕ × ℕ) = (e, 0) ∷ [] in
    cond_few (n + 1) (begun (keep_bits L.width) m c) (keep_taken L.code L.removals m e b)
    (λ _. omega (arith, length-append (cond (eqb (L.code m []) b) none []) (map (kept e) (L.removals m b)), cond_few 1 (eqb (L.code m []) b) none (λ _. omega arith), length-map (L.removals m b) (kept e), f m b))

kind_few : (k : ℕ) → Few 16 (of_kind k)
kind_few k = cond_both (eqb k 0) list _ (Few 16) (λ _. list_few) (λ _. cond_both (eqb k 1) mask blank (Few 16) (λ _. mask_few) (λ _. blank_few))

few_more : (n k : ℕ) (L : Layers) → n ≤ k → Few n L → Few k L
few_more n k L h f m c = omega (arith, f m c)

under_few : (k : ℕ) (L : Layers) → Few 16 L → Few 18 (under k L)
under_few k L f = cond_both (eqb k 0) L _ (Few 18) (λ _. few_more 16 18 L (omega arith) f)
    (λ _. cond_both (eqb k 1) (keeping L) (keeping (keeping L)) (Few 18) (λ _. few_more 17 18 (keeping L) (omega arith) (keeping_few 16 L f)) (λ _. keeping_few 17 (keeping L) (keeping_few 16 L f)))

named_few : (set : List ℕ) → Few 18 (named set)
named_few set = under_few (word_at set 4) (of_kind (word_at set 2)) (kind_few (word_at set 2))

module _ (table set : List ℕ) (low_table : (i : ℕ) → byte_at table i < 256) (low_set : (i : ℕ) → byte_at set i < 256) where
  table_word : (i : ℕ) → word_at table i < 65536
  table_word i = omega (arith, low_table i, low_table (i + 1))

  set_word : (i : ℕ) → word_at set i < 65536
  set_word i = omega (arith, low_set i, low_set (i + 1))

  place : (n : Refusal) (a : ℕ) → a < 2 ^ 24 → Fits (fault_at n a)
  place n a h = record { a = h; b = omega arith; c = omega arith }

  few_patterns : pattern_count table < 65536
  few_patterns = cond_both (eqb (pattern_lines_n table) 0) 0 _ (λ n. n < 65536) (λ _. omega arith) (λ _. omega (arith, low_table (pattern_offset table (pattern_lines_n table - 1))))

  outcomes_few : (r : Record) (x : Rule) (a : Action) → outcomes (claim_under table set (named set)) r x a ≤ 18
  outcomes_few r x Local = omega arith
  outcomes_few r x (Take e) = named_few set _ _
  outcomes_few r x (Send e d) = omega arith

  all_fit : AllOf (λ f. Fits (numbers table f)) (order table set (claim_under table set (named set)))
  all_fit =
      let T = claim_under table set (named set) in (
        (
          (place _ 0 (omega arith), ((λ i l. place _ (2 * i) (omega arith)), place _ 0 (omega arith))),
          (
            (λ i l. place _ (machine_offset i) (omega (arith, table_word 2))),
            (
              (λ r l. place _ (rule_offset table r) (omega (arith, table_word 2, table_word 6))),
              (λ l h. place _ (pattern_offset table l) (omega (arith, table_word 2, table_word 6, table_word 8))),
            ),
          ),
        ),
        (
          (
            (place _ 0 (omega arith), ((λ i l. place _ (2 * i) (omega arith)), place _ 0 (omega arith))),
            (λ k l. (place _ k (omega (arith, set_word 10)), place _ k (omega (arith, set_word 10)))),
          ),
          (
            place _ 0 (omega arith),
            (λ k lk.
                let few : k < 65536 = omega (arith, records_long (machines_n table) set, set_word 10) in (
                  (λ i li e le. record { a = omega arith; b = omega (arith, machines_long table, table_word 2); c = omega (arith, table_word 4) }),
                  (
                    (λ p lp. record { a = omega arith; b = omega (arith, patterns_long table, few_patterns); c = omega arith }),
                    (λ r lr c lc. record { a = omega arith; b = omega (arith, rules_long table, table_word 6); c = omega (arith, outcomes_few (record_of T k) (rule_of (system_of table) r) (rule_of (system_of table) r).action) }),
                  ),
                )),
          ),
        ),
      )

  fault_fits : (f : Fault) → FirstFault (Applies table set (claim_under table set (named set))) (numbers table) (order table set (claim_under table set (named set))) f → Fits f
  fault_fits f h =
      let T = claim_under table set (named set) in
      subst Fits (sym h.numbered) (first_all (λ g. Fits (numbers table g)) (Applies table set T) (order table set T) h.finding h.first all_fit)

  pub checked_fits : (r : Result Pass Fault) → Checked table set (claim_under table set (named set)) r → IfErr r Fits
  checked_fits (Ok p) h = tt
  checked_fits (Err f) h = fault_fits f h.1
