use Rattle.layout.proofs.FlagLaw.{flag}
use Rattle.layout.proofs.Region.has_ecc.Goals as goal

-- `layout::Region::has_ecc` meets its contract. Assumes nothing.
pub returns : goal.returns
returns c = flag 1 c.args.self.flags
