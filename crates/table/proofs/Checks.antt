-- The lines of one kind, checked one after another. Assumes nothing.
use Rattle.std.proofs.Common.{◌≡◌, ℕ, List, Ok, Err, Result, arith}
use Rattle.model.specs.declared.fault.Fault.{Fault}
use Rattle.model.specs.Order.{Order, each}
use Rattle.model.proofs.Findings.{answered_at}
use Rattle.table.specs.Findings.{Finding, Applies, numbers}
use Rattle.table.specs.Reading.{Finds, FirstErr}

-- the first error among the answers for n parts is what a search through all of them answers
pub finds_each : (bs : List ℕ) (g : ℕ → Order Finding) (m n : ℕ) (r : Result (Unit {0}) Fault)
    → FirstErr m (λ i v. Finds bs (g i) v) r
    → m ≡ n
    → Finds bs (each n g) r
finds_each bs g m n (Ok u) k e = λ i l. k.none i (omega arith)
finds_each bs g m n (Err f) k e =
    let w = k.first in
    answered_at (Applies bs) (numbers bs) n g w.0 f (omega (arith, w.1)) w.2 w.3
