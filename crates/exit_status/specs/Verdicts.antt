-- What is wrong with an image, and the exit status that says so. (FORMAT 14)
use Rattle.std.specs.Prelude.{Bool, true, false, not, ◌||◌, ℕ, ltb, Option, None, Some, Result, Ok, Err}
use Rattle.model.specs.Scan.{Report}
use Rattle.scan.specs.Answers.{as_scan}
use Rattle.findings.specs.Answers.{uncorrectable_in}
use Rattle.mending.specs.declared.Mending.{Mending}
use Rattle.findings.specs.declared.Findings.{Findings}
use Rattle.findings.specs.declared.Rejected.{Rejected}
use Rattle.findings.specs.declared.Rejected.TheVariants as rejected
use Rattle.exit_status.specs.declared.Verdict.{Verdict}
use Rattle.exit_status.specs.declared.Verdict.TheVariants.{Sound, Damaged, TooLong, Refused}

abbrev pub damaged_in : Option Report → Bool
damaged_in None = false
damaged_in (Some r) = ltb 0 r.corrected || ltb 0 r.uncorrectable

abbrev pub verdict_if : Bool → Verdict
verdict_if true = Damaged
verdict_if false = Sound

-- what was not looked at, or not mended
abbrev pub verdict_on : Rejected → Verdict
verdict_on rejected.TooLong = TooLong
verdict_on (rejected.Refused r) = Refused r

-- an image is damaged if a header copy differs from the vote, or a word is corrected or uncorrectable
abbrev pub report_verdict : Result Findings Rejected → Verdict
report_verdict (Err r) = verdict_on r
report_verdict (Ok f) = verdict_if (f.needs_scrub || damaged_in (as_scan f.report))

-- a mended image is damaged if a word remains uncorrectable
abbrev pub mending_verdict : Result Mending Rejected → Verdict
mending_verdict (Err r) = verdict_on r
mending_verdict (Ok m) = verdict_if (ltb 0 (uncorrectable_in (as_scan m.report)))

-- in place, an image that mending did not change is not written
abbrev pub writes_file : Result Mending Rejected → Bool → Bool
writes_file (Err r) inPlace = false
writes_file (Ok m) inPlace = not inPlace || ltb 0 m.stored

abbrev pub status_of : Verdict → ℕ
status_of Sound = 0
status_of Damaged = 1
status_of TooLong = 2
status_of (Refused r) = 2
