use Rattle.layout.proofs.FlagLaw.{flag}
use Rattle.plan.proofs.rows.Row.is_protected.Goals as goal

-- `plan::rows::Row::is_protected` meets its contract. Assumes nothing.
pub returns : goal.returns
returns c = flag 1 c.args.self.flags
