use mathlib.Core.Path.{ap, subst, sym}
use borrow.Author.Rules.{rules}
use Rattle.model.specs.Scan.{visit_with}
use Rattle.layout.specs.Regions.{as_entry}
use Rattle.scan.specs.Runs.{IsRun}
use Rattle.scan.proofs.RunLaw.{no_plane_lem, past_end, ordered, the_run}
use Rattle.scan.proofs.runs.run_with_plane.Goals as goal

-- `scan::runs::run_with_plane` meets its contract. Assumes nothing.
pub returns-in_err-plane : goal.returns-in_err-plane
returns-in_err-plane c =
    let g = c.args in
    subst (IsRun g.bytes.now _) (sym c.from_residual.ensures)
    (ap (visit_with (as_entry g.region)) (no_plane_lem g.header.region_count g.bytes.now g.region c.ecc_for.result c.ecc_for.ensures c.in_err-plane.was))

pub returns-in_default : goal.returns-in_default
returns-in_default c =
    let g = c.args in
    ap (visit_with (as_entry g.region)) (past_end g.header.region_count g.bytes.now g.region c.ecc_for.result c.region_span.result c.ecc_for.ensures c.region_span.ensures _ c.in_default.is)

pub overflow_sub-plane : goal.overflow_sub-plane
overflow_sub-plane c =
    let g = c.args in
    ordered g.header.region_count g.bytes.now g.region c.ecc_for.result c.region_span.result c.ecc_for.ensures c.region_span.ensures
    _ _ c.in_ok-plane.was c.in-Ok.is

pub returns : goal.returns
returns c =
    let g = c.args in
    the_run g.header.region_count g.bytes.now g.region c.ecc_for.result c.region_span.result c.ecc_for.ensures c.region_span.ensures
    _ _ c.in_ok-plane.was c.in-Ok.is _ c.min.ensures (search rules)
