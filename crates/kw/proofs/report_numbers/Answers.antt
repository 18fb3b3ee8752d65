use mathlib.Core.Path.{refl}
use Rattle.scan.specs.Answers.{as_scan}
use Rattle.kw.specs.Numbers.{report_numbers}
use Rattle.kw.proofs.Told.{told}
use Rattle.kw.proofs.report_numbers.Goals as goal

-- `kw::report_numbers` meets its contract. Assumes nothing.
pub returns-in-Some : goal.returns-in-Some
returns-in-Some c = told report_numbers as_scan refl c.in-Some.is
