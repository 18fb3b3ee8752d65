use Rattle.layout.proofs.FlagLaw.{flag}
use Rattle.layout.proofs.Region.is_encrypted.Goals as goal

-- `layout::Region::is_encrypted` meets its contract. Assumes nothing.
pub returns : goal.returns
returns c = flag 0 c.args.self.flags
