-- Some state has the codes of a record; and one of its queues may be any with its code. Assumes nothing.
use Rattle.std.proofs.Common.{◌≡◌, ℕ, zero, suc, ◌<◌, List, [], ◌∷◌, length, set, sym, refl, ap, ◌∙◌, subst, arith, get_or-set_same}
use lib.ListN.{length-map}
use lib.Seq.{map-set, map-set_same}
use Rattle.model.proofs.States.{is_set}
use Rattle.model.specs.Queue.{Over}
use Rattle.model.specs.State.{State, local_at, queue_at, IsState}
use Rattle.model.specs.System.{machines, states_of}
use Rattle.abstraction.specs.Meaning.{Good}
use Rattle.closed_sets.proofs.Closure.{entry_at}
use Rattle.closed_sets.specs.Records.{Claim, Record, code_in, local_in, codes, Sound}

module _ (T : Claim) where
  pub local_is : (s : State) (r : Record) (i : ℕ) → codes T s ≡ r → i < length s → local_at s i ≡ local_in r i
  local_is s r i e h = sym (ap (λ (x : ℕ × ℕ). x.0) (entry_at T s i h)) ∙ ap (λ (z : Record). local_in z i) e

  pub code_is : (s : State) (r : Record) (i : ℕ) → codes T s ≡ r → i < length s → T.code T.system.events (queue_at s i) ≡ code_in r i
  code_is s r i e h = sym (ap (λ (x : ℕ × ℕ). x.1) (entry_at T s i h)) ∙ ap (λ (z : Record). code_in z i) e

  pub as_long : (s : State) (r : Record) → codes T s ≡ r → length s ≡ length r
  as_long s r e = sym (length-map s (λ (x : ℕ × List ℕ). (x.0, T.code T.system.events x.1))) ∙ ap length e

  pub codes_set : (s : State) (r : Record) (i l : ℕ) (Q : List ℕ) (d : ℕ) → codes T s ≡ r → T.code T.system.events Q ≡ d → codes T (set s i (l, Q)) ≡ set r i (l, d)
  codes_set s r i l Q d e f =
      map-set (λ (x : ℕ × List ℕ). (x.0, T.code T.system.events x.1)) s i (l, Q)
      ∙ ap (λ (z : Record). set z i (l, T.code T.system.events Q)) e
      ∙ ap (λ (z : ℕ). set r i (l, z)) f

  filled : (r : Record) → ((i : ℕ) → i < length r → Good T.width T.code T.system.events (code_in r i)) → (s : State) × (codes T s ≡ r) × ((i : ℕ) → i < length r → Over T.system.events (queue_at s i))
  filled [] g = ([], refl, λ i h. absurd (omega arith))
  filled ((l, c) ∷ r) g =
      let q = g 0 (omega arith) in
      let rest = filled r (λ i h. g (suc i) (omega arith)) in
      ((l, q.queue) ∷ rest.0, both q.queue rest.0 q.coded rest.1, overs q.queue rest.0 q.over rest.2)
    where
      both : (Q : List ℕ) (s : State) → T.code T.system.events Q ≡ c → codes T s ≡ r → codes T ((l, Q) ∷ s) ≡ (l, c) ∷ r
      both Q s e f = ap (λ (z : ℕ). (l, z) ∷ codes T s) e ∙ ap (λ (z : Record). (l, c) ∷ z) f

      overs : (Q : List ℕ) (s : State) → Over T.system.events Q → ((i : ℕ) → i < length r → Over T.system.events (queue_at s i)) → (i : ℕ) → i < suc (length r) → Over T.system.events (queue_at ((l, Q) ∷ s) i)
      overs Q s o f zero h = o
      overs Q s o f (suc i) h = f i (omega arith)

  module _ (r : Record) (sound : Sound T r) where
    pub chosen : (s : State) × IsState T.system s × (codes T s ≡ r)
    chosen =
        let f = filled r (λ i h. sound.good i (omega (arith, sound.entries))) in
        let s = f.0 in
        let long = as_long s r f.1 in
        let en = sound.entries in (
          s,
          record {
            entries = long ∙ en;
            locals = λ i h. subst (λ (z : ℕ). z < states_of T.system i) (sym (local_is s r i f.1 (omega arith))) (sound.locals i h);
            queues = λ i h. f.2 i (omega arith);
          },
          f.1,
        )

    pub requeued : (s : State) (i : ℕ) (Q : List ℕ) → IsState T.system s → codes T s ≡ r → i < machines T.system → Over T.system.events Q → T.code T.system.events Q ≡ code_in r i → IsState T.system (set s i (local_at s i, Q)) × (codes T (set s i (local_at s i, Q)) ≡ r)
    requeued s i Q is e h o q =
        let ls : i < length s = omega (arith, is.entries) in (
          is_set T.system s i _ Q is h (is.locals i h) o,
          map-set_same (λ (x : ℕ × List ℕ). (x.0, T.code T.system.events x.1)) s i (local_at s i, Q) (0, []) (ap (λ (z : ℕ). (local_at s i, z)) (q ∙ sym (code_is s r i e ls))) ∙ e,
        )

    pub queue_set : (s : State) (i l : ℕ) (Q : List ℕ) → IsState T.system s → i < machines T.system → queue_at (set s i (l, Q)) i ≡ Q
    queue_set s i l Q is h = ap (λ (x : ℕ × List ℕ). x.1) (get_or-set_same s i (l, Q) (0, []) (omega (arith, is.entries)))
