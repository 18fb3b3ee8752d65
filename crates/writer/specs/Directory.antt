-- Steps of code, for private contracts; no statement of the demands speaks of them. The directory of rows. (FORMAT 9)
use Rattle.std.specs.Prelude.{List, ◌++◌, ℕ, ◌<◌, All}
use Rattle.model.specs.Writer.{row_entries, plane_entries, entries_bytes}
use Rattle.plan.specs.Rows.{as_plan}
use Rattle.plan.specs.declared.rows.Row.{Row}

-- one copy of the directory: the rows' regions packed from word a on, their planes from word b on
abbrev pub directory_bytes : ℕ → ℕ → List Row → List ℕ
directory_bytes a b rows = entries_bytes (row_entries a (as_plan rows) ++ plane_entries b (as_plan rows))

-- no kind is a plane's
abbrev pub LowKinds : List Row → Type 0
LowKinds rows = All (λ r. r.kind < 0x8000) rows
