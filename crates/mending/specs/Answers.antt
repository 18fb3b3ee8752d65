-- The model's reading of mend's answer, and of what it leaves. (FORMAT 10)
use Rattle.std.specs.Prelude.{List, ℕ, Result, Ok, Err}
use Rattle.model.specs.Mend as model
use Rattle.error.specs.declared.Refusal.{Refusal}
use Rattle.error.specs.Refused.{number_of, detail_of}
use Rattle.scan.specs.Answers.{as_scan}
use Rattle.mending.specs.declared.Mending.{Mending}

-- what mend answered, with the image y that it leaves, as the model's answer
abbrev pub as_mending : Mending → List ℕ → model.MendAnswer
as_mending m y = model.mended y (as_scan m.report) m.stored m.whole

abbrev pub as_mended : Result Mending Refusal → List ℕ → model.MendAnswer
as_mended (Ok m) y = as_mending m y
as_mended (Err r) y = model.refused_mend (number_of r) (detail_of r)

-- what it leaves of x: a refusal leaves every byte
abbrev pub left_by : model.MendAnswer → List ℕ → List ℕ
left_by (model.mended y r n w) x = y
left_by (model.refused_mend n d) x = x
