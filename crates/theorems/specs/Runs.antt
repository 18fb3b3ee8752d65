-- A run of a function, as its promise tells it: what it was lent, its answer, and what it left. (FORMAT 8 to 11)
-- That each is what the function's own contract gives its callers is proved in proofs/RunLaw.antt.
use Rattle.std.specs.Prelude.{◌≡◌, List, ℕ, length, take, Option, Result}
use Rattle.std.proofs.lemmas.List.Edits.{sets}
use Rattle.model.specs.Mend.{mend}
use Rattle.model.specs.Scrub.{scrub}
use Rattle.model.specs.Writer.{write}
use Rattle.model.specs.Programs.{scrub_image, scrub_text}
use Rattle.plan.specs.Rows.{as_plan}
use Rattle.writer.specs.Answers.{as_written, answer_of, bytes_after}
use Rattle.plan.specs.declared.rows.Row.{Row}
use Rattle.scan.specs.Answers.{as_scan}
use Rattle.mending.specs.Answers.{as_mended, left_by}
use Rattle.text.specs.declared.Printed.{Printed}
use Rattle.ecc.specs.declared.EccReport.{EccReport}
use Rattle.error.specs.declared.Refusal.{Refusal}
use Rattle.mending.specs.declared.Mending.{Mending}

-- writer::write of these rows and this payload into `out`: it answered r and left `after`
pub record Writes (rows : List Row) (payload out : List ℕ) (r : Result ℕ Refusal) (after : List ℕ) : Type 0 where
  pub answer : as_written r ≡ answer_of (write (as_plan rows) payload (length out))
  pub leaves : after ≡ bytes_after (write (as_plan rows) payload (length out)) out

-- mending::mend of x: it answered r and left y
pub record MendsTo (x : List ℕ) (r : Result Mending Refusal) (y : List ℕ) : Type 0 where
  pub answer : as_mended r y ≡ mend x
  pub leaves : y ≡ left_by (mend x) x

-- scrubbing::scrub of x: it answered r and left y
pub record ScrubsTo (x : List ℕ) (r : Option EccReport) (y : List ℕ) : Type 0 where
  pub answer : as_scan r ≡ (scrub x).report
  pub leaves : y ≡ (scrub x).image

-- text::scrub of x, with a buffer for its line, as the program scrub calls it: it answered r and left y and `line`
pub record Prints (x buffer : List ℕ) (r : Printed) (y line : List ℕ) : Type 0 where
  pub written : take r.image y ≡ scrub_image x
  pub said : line ≡ sets buffer 0 (scrub_text x)
