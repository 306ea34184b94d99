use Rattle.std.proofs.Common.{◌≡◌, ℕ, List, [], ◌∷◌, Bor, None, sym, subst, rules}
use Rattle.std.proofs.lemmas.Result.{IfOk-weaker}
use Rattle.std.specs.Fn.{Called}
use Rattle.std.specs.Iterator.{YieldsFirstRef, Yields}
use Rattle.std.specs.Iterator.Adapters.{map_source, map_steps}
use Rattle.std.specs.declared.iter.Map.{Map}
use denote.Param.Members.{Mut}
use Rattle.calls.specs.declared.line.Line.{Line}
use Rattle.calls.specs.Lines.{lines_of}
use Rattle.calls.specs.Reading.{Reads, ReadsAll}
use Rattle.calls.proofs.reading.read_lines.Goals as goal

-- the answers at the lines that come read those that are left
reads_each : {S F : Type 0} (rest : S → List (List ℕ)) (g : Mut F (Bor (List ℕ) × Unit {0}) Line) → ((f : F) (x : Bor (List ℕ)) (r : Line) (h : F) → Called g f (x, tt) r h → Reads x.now r) → (xs : List Line) (s t u : Map S F) → Yields (map_steps (YieldsFirstRef rest) g) s xs t → map_steps (YieldsFirstRef rest) g t None u → ReadsAll (rest (map_source s)) xs
reads_each rest g answers [] s t u e none =
    subst (λ (m : Map _ _). ReadsAll (rest (map_source m)) []) (sym e) (rw none.0.0 tt)
reads_each rest g answers (x ∷ xs) s t u (j, (line, e, called), more) none =
    rw e (answers _ _ _ _ called, reads_each rest g answers xs j t u more none)

pub returns : goal.returns
returns c =
    let whole : (map_source c.map.result).rest.now ≡ c.args.text.now = search rules in
    IfOk-weaker c.collect.result _ (λ v. ReadsAll (lines_of c.args.text.now) v.items)
    (λ v (xs, (t, steps, ends), made). rw made.0 (rw whole at (reads_each (λ l. lines_of l.rest.now) _ (λ f x r h p. search rules) xs c.map.result t (ends tt).0 steps (ends tt).1)))
    c.collect.ensures.ran
