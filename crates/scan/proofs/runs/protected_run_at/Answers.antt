use mathlib.Core.Path.{subst, sym}
use Rattle.scan.specs.Runs.{IsRun}
use Rattle.scan.proofs.RunLaw.{not_there, unprotected, protected}
use Rattle.scan.proofs.runs.protected_run_at.Goals as goal

-- `scan::runs::protected_run_at` meets its contract. Assumes nothing.
pub returns-in_err-region : goal.returns-in_err-region
returns-in_err-region c =
    let g = c.args in
    subst (IsRun g.bytes.now _) (sym c.from_residual.ensures)
    (not_there g.header.region_count g.bytes.now g.i c.region_at.result c.region_at.ensures c.in_err-region.was)

pub returns-then-not-is_protected : goal.returns-then-not-is_protected
returns-then-not-is_protected c =
    let g = c.args in
    unprotected g.header.region_count g.bytes.now g.i c.region_at.result c.region_at.ensures c.in_ok-region.region c.in_ok-region.was
    c.is_protected.result c.is_protected.ensures c.if-not-is_protected.true

pub returns : goal.returns
returns c =
    let g = c.args in
    protected g.header.region_count g.bytes.now g.i c.region_at.result c.region_at.ensures c.in_ok-region.region c.in_ok-region.was
    c.is_protected.result c.is_protected.ensures c.if-not-is_protected.false c.run_with_plane.result c.run_with_plane.ensures
