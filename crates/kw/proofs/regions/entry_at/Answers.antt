use mathlib.Core.Path.{sym, ap}
use Rattle.view.specs.Answers.{found_as}
use Rattle.kw.proofs.RegionsLaw.{none_past}
use Rattle.kw.proofs.regions.entry_at.Goals as goal

-- `kw::regions::entry_at` meets its contract. Assumes nothing.
pub returns-then-header-index : goal.returns-then-header-index
returns-then-header-index c =
    let g = c.args in
    ap found_as (sym (none_past g.header.region_count g.image.now g.index c.if-header-index.true))
