-- A table that reads has no more machines than a controller has entries. Assumes nothing.
use Rattle.std.proofs.Common.{◌≡◌, ℕ, List, ap, arith}
use Rattle.std.proofs.lemmas.List.{take_all}
use Rattle.table.specs.Reading.{Reads}
use Rattle.table.specs.SystemOf.{system_of}
use Rattle.table.proofs.Parts.{machines_long}
use Rattle.table.proofs.Wholesome.{few_machines}
use Rattle.controller.specs.Hosted.{hosted}

pub hosted_whole : (bs : List ℕ) → Reads bs → hosted (system_of bs) ≡ system_of bs
hosted_whole bs reads =
    let S = system_of bs in
    ap (λ (states : List ℕ). record { events = S.events; states = states; rules = S.rules; patterns = S.patterns }) (take_all 6 S.states (omega (arith, few_machines bs reads, machines_long bs)))
