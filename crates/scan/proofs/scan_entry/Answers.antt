use mathlib.Core.Path.{sym, ap, ◌∙◌}
use native.Mathlib.Omega.{arith}
use Rattle.std.specs.Prelude.{Some}
use Rattle.model.specs.Scan.{Report}
use Rattle.scan.specs.Answers.{as_scan}
use Rattle.scan.proofs.RunLaw.{run_words}
use Rattle.scan.proofs.VisitLaw.{no_scan, scan_run_is}
use Rattle.scan.proofs.scan_entry.Goals as goal

-- `scan::scan_entry` meets its contract. Assumes nothing.
pub returns-in_err-run : goal.returns-in_err-run
returns-in_err-run c =
    let e = ap as_scan c.from_residual.ensures in
    record { is = e ∙ sym (no_scan c.args.bytes.now _ c.in_err-run.ensures); few = rw e (omega arith) }

pub returns : goal.returns
returns c =
    let x = c.args.bytes.now in
    let r = c.in_ok-run.run' in
    let k = c.in_ok-run.ensures in
    record {
      is = ap Some c.scan_run.ensures ∙ scan_run_is x _ r k;
      few = omega (arith, ap (λ (q : Report). q.words) c.scan_run.ensures, run_words x r, k.few);
    }
