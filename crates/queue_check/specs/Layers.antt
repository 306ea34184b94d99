-- The abstraction that the header of a set names. Assumes nothing.
use Rattle.std.specs.Prelude.{ℕ, cond, List, ◌==◌}
use Rattle.table.specs.Bytes.{word_at}
use Rattle.blank_abstraction.specs.Blank.{blank_removals}
use Rattle.set_abstraction.specs.Set.{set_code, set_removals}
use Rattle.list_abstraction.specs.List.{list_code, list_removals}
use Rattle.keep_first.specs.KeepFirst.{keep_bits, keep_code, keep_removals}
use Rattle.closed_sets.specs.Records.{Claim}
use Rattle.checker.specs.SetFile.{claim_of}
use Rattle.queue_check.specs.declared.kind.Kind.{Kind}
use Rattle.queue_check.specs.declared.kind.Kind.TheVariants.{List as ListKind, Set as SetKind, Blank as BlankKind}

-- what an abstraction is to a claim: its width, its codes and its removals
pub record Layers : Type 0 where
  pub width : ℕ
  pub code : ℕ → List ℕ → ℕ
  pub removals : ℕ → ℕ → List (ℕ × ℕ)

abbrev pub list : Layers
list = record { width = 32; code = list_code; removals = list_removals }

abbrev pub mask : Layers
mask = record { width = 8; code = set_code; removals = set_removals }

abbrev pub blank : Layers
blank = record { width = 0; code = λ m Q. 0; removals = blank_removals }

-- the layers of each kind
abbrev pub layers_of : Kind → Layers
layers_of ListKind = list
layers_of SetKind = mask
layers_of BlankKind = blank

-- one layer that keeps the first event
abbrev pub keeping : Layers → Layers
keeping L = record { width = keep_bits L.width; code = keep_code L.code; removals = keep_removals L.width L.code L.removals }

-- kind 0 is the list, 1 the set, 2 the blank; a header with any other kind is refused under each of them
abbrev pub of_kind : ℕ → Layers
of_kind kind = cond (kind == 0) list (cond (kind == 1) mask blank)

-- so many layers, up to two; a header that asks for more is refused under each of them
abbrev pub under : ℕ → Layers → Layers
under kept L = cond (kept == 0) L (cond (kept == 1) (keeping L) (keeping (keeping L)))

-- the layers that the fields kind and kept of a set's header name
abbrev pub named : List ℕ → Layers
named set = under (word_at set 4) (of_kind (word_at set 2))

abbrev pub claim_under : List ℕ → List ℕ → Layers → Claim
claim_under table set L = claim_of table set L.width L.code L.removals
