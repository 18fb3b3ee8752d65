use Rattle.layout.proofs.FlagLaw.{flag}
use Rattle.layout.proofs.Region.is_ecc_plane.Goals as goal

-- `layout::Region::is_ecc_plane` meets its contract. Assumes nothing.
pub returns : goal.returns
returns c = flag 3 c.args.self.flags
