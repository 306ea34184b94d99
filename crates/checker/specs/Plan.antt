-- A table read once: its rules by machine and local state, and its pattern lines. Assumes nothing.
use Rattle.std.specs.Prelude.{◌≡◌, ℕ, ◌+◌, ◌*◌, ◌%◌, ◌<◌, ◌≤◌, List, length, Option, None, Some, IfSome, ◌≢◌, slice_index_or}
use Rattle.model.specs.System.{rule_of}
use Rattle.model.specs.declared.queue.Front.TheVariants.{Any}
use Rattle.model.specs.declared.rule.Action.TheVariants.{Local}
use Rattle.table.specs.Layout.{rules_n, pattern_lines_n, pattern_offset}
use Rattle.table.specs.Lines.{pattern_line_at}
use Rattle.table.specs.SystemOf.{system_of}
use Rattle.table.specs.declared.line.PatternLine.{PatternLine}
use Rattle.checker.specs.declared.plan.Chains.{Chains}
use Rattle.checker.specs.declared.plan.Link.{Link}
use Rattle.checker.specs.declared.plan.Plan.{Plan}

-- where no rule is
abbrev pub no_link : Link
no_link = record { rule = record { machine = 0; from = 0; to = 0; action = Local }; next = None }

abbrev pub no_line : PatternLine
no_line = record { number = 0; condition = record { machine = 0; local = None; front = Any; mask = 0 } }

-- where the rules of a machine from a local state are kept
abbrev pub cell_of : ℕ → ℕ → ℕ
cell_of i l = 32 * (i % 8) + l % 32

abbrev pub cell_at : List ℕ → ℕ → ℕ
cell_at bs r = cell_of (rule_of (system_of bs) r).machine (rule_of (system_of bs) r).from

-- from a on and below b there is no rule of the cell
abbrev pub Skips : List ℕ → ℕ → ℕ → ℕ → Type 0
Skips bs x a b = (j : ℕ) → a ≤ j → j < b → j < rules_n bs → cell_at bs j ≢ x

-- the first rule of the cell from a on, if there is one
abbrev pub FirstFrom : List ℕ → ℕ → ℕ → Option ℕ → Type 0
FirstFrom bs x a None = Skips bs x a (rules_n bs)
FirstFrom bs x a (Some j) = (a ≤ j) × (j < rules_n bs) × (cell_at bs j ≡ x) × Skips bs x a j

-- the rules from r on are there, each with the next one of its cell, and the first one of every cell
pub record Chained (bs : List ℕ) (r : ℕ) (p : Chains) : Type 0 where
  pub links_long : length p.links ≡ 256
  pub heads_long : length p.heads ≡ 256
  pub rules : (j : ℕ) → r ≤ j → j < rules_n bs → (slice_index_or p.links j no_link).rule ≡ rule_of (system_of bs) j
  pub next : (j : ℕ) → r ≤ j → j < rules_n bs → FirstFrom bs (cell_at bs j) (j + 1) (slice_index_or p.links j no_link).next
  pub heads : (x : ℕ) → x < 256 → FirstFrom bs x r (slice_index_or p.heads x None)

pub record Planned (bs : List ℕ) (p : Plan) : Type 0 where
  pub chained : Chained bs 0 p.chains
  pub takers : (x : ℕ) → IfSome (slice_index_or p.takers x None) (λ r. r < rules_n bs)
  pub lines : (l : ℕ) → l < pattern_lines_n bs → slice_index_or p.lines l no_line ≡ pattern_line_at bs (pattern_offset bs l)
