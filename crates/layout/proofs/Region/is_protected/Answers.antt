use mathlib.Core.Path.{◌≡◌, sym, ◌∙◌}
use mathlib.Core.Bool.{true, false}
use borrow.Author.Tests.{not-true, not-false}
use Rattle.model.specs.Layout.{is_plane}
use Rattle.model.specs.Scan.{is_protected}
use Rattle.layout.proofs.Region.is_protected.Goals as goal

-- `layout::Region::is_protected` meets its contract. Assumes nothing.
pub returns-then-not-is_ecc_plane : goal.returns-then-not-is_ecc_plane
unfolding is_protected
returns-then-not-is_ecc_plane c =
    let p = c.is_ecc_plane in
    let e : is_plane c.args.self.flags ≡ false = sym p.ensures ∙ not-true p.result c.if-not-is_ecc_plane.true-raw in
    c.has_ecc.ensures ∙ sym (rw e)

pub returns-else-not-is_ecc_plane : goal.returns-else-not-is_ecc_plane
unfolding is_protected
returns-else-not-is_ecc_plane c =
    let p = c.is_ecc_plane in
    let e : is_plane c.args.self.flags ≡ true = sym p.ensures ∙ not-false p.result c.if-not-is_ecc_plane.false-raw in
    c.if-not-is_ecc_plane.false-raw ∙ sym (rw e)
