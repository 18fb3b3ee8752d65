use native.Mathlib.Omega.{arith}
use borrow.Author.Tests.{lt-ltb, le-ltb}
use Rattle.model.specs.Layout.{end}
use Rattle.model.specs.Views.{bytes_span}
use Rattle.layout.specs.Regions.{as_entry}
use Rattle.tables.proofs.region_span.Goals as goal

-- `tables::region_span` meets its contract. Assumes nothing.
pub returns-then-len-end : goal.returns-then-len-end
unfolding bytes_span
returns-then-len-end c =
    let g = c.args in
    simp (lt-ltb g.len (end (as_entry g.region)) (omega (arith, c.byte_end-end.ensures, c.if-len-end.true)))

pub returns : goal.returns
unfolding bytes_span
returns c =
    let g = c.args in
    simp (le-ltb g.len (end (as_entry g.region)) (omega (arith, c.byte_end-end.ensures, c.if-len-end.false)), c.byte_end-end.ensures, c.byte_offset.ensures)
