-- The rows of a plan as the model has them, and what their checks say. (FORMAT 9)
use Rattle.std.specs.Prelude.{ℕ, List, [], ◌∷◌, Result, Ok, Err}
use Rattle.model.specs.Refusals.{Verdict, fine}
use Rattle.model.specs.Writer as model
use Rattle.error.specs.declared.Refusal.{Refusal}
use Rattle.error.specs.Refused.{as_verdict}
use Rattle.plan.specs.declared.rows.Row.{Row}

abbrev pub as_row : Row → model.Row
as_row r = record { kind = r.kind; flags = r.flags; words = r.words }

unfoldable pub as_plan : List Row → List model.Row
as_plan [] = []
as_plan (r ∷ rs) = as_row r ∷ as_plan rs

abbrev pub as_rows_verdict : Result ℕ Refusal → Verdict
as_rows_verdict (Ok n) = fine
as_rows_verdict (Err r) = as_verdict r
