use mathlib.Core.Path.{sym, ap, ◌∙◌}
use Rattle.std.specs.Prelude.{Some}
use Rattle.model.specs.Scan.{scan_region}
use Rattle.scan.specs.Answers.{as_scan}
use Rattle.scan.proofs.VisitLaw.{no_scan, scan_run_is}
use Rattle.scan.proofs.verify_region.Goals as goal

-- `scan::verify_region` meets its contract. Assumes nothing.
pub returns-in_err-run : goal.returns-in_err-run
unfolding scan_region
returns-in_err-run c = ap as_scan c.from_residual.ensures ∙ sym (no_scan c.args.bytes.now _ c.in_err-run.ensures)

pub returns : goal.returns
unfolding scan_region
returns c = ap Some c.scan_run.ensures ∙ scan_run_is c.args.bytes.now _ c.in_ok-run.run' c.in_ok-run.ensures
