use Rattle.view.proofs.RegionLaw.{region_read}
use Rattle.view.proofs.directory.Directory.region.Goals as goal

-- `view::directory::Directory::region` meets its contract. Assumes nothing.
pub returns : goal.returns
returns c =
    let g = c.args.self in
    region_read g.count g.bytes.now c.args.i c.number_at.result c.number_at-2.result c.number_at-3.result c.number_at-4.result c.number_at-5.result
    c.number_at.ensures c.number_at-2.ensures c.number_at-3.ensures c.number_at-4.ensures c.number_at-5.ensures
