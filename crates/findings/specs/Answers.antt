-- The model's reading of what is found in an image and made of it, and what is left of the image. (FORMAT 11, 14)
use Rattle.std.specs.Prelude.{List, ℕ, Option, None, Some, Result, Ok, Err}
use Rattle.model.specs.Scan.{Report}
use Rattle.model.specs.Mend.{MendAnswer, refused_mend}
use Rattle.model.specs.Programs as model
use Rattle.error.specs.Refused.{number_of, detail_of}
use Rattle.scan.specs.Answers.{as_scan}
use Rattle.mending.specs.Answers.{as_mending, left_by}
use Rattle.mending.specs.declared.Mending.{Mending}
use Rattle.findings.specs.declared.Findings.{Findings}
use Rattle.findings.specs.declared.Rejected.{Rejected}
use Rattle.findings.specs.declared.Rejected.TheVariants.{TooLong, Refused}

abbrev pub as_found : Result Findings Rejected → model.Found
as_found (Err TooLong) = model.too_long
as_found (Err (Refused r)) = model.refused_image (number_of r) (detail_of r)
as_found (Ok f) = model.image f.regions f.needs_scrub (as_scan f.report)

-- what mend_within answered, with the image y that it leaves, as the model's answer
abbrev pub as_outcome : Result Mending Rejected → List ℕ → Option MendAnswer
as_outcome (Err TooLong) y = None
as_outcome (Err (Refused r)) y = Some (refused_mend (number_of r) (detail_of r))
as_outcome (Ok m) y = Some (as_mending m y)

abbrev pub left_within : Option MendAnswer → List ℕ → List ℕ
left_within None x = x
left_within (Some m) x = left_by m x

abbrev pub uncorrectable_in : Option Report → ℕ
uncorrectable_in None = 0
uncorrectable_in (Some r) = r.uncorrectable
