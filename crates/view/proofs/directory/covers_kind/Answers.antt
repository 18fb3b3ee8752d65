use Rattle.view.proofs.EntriesForLaw.{flag_off, flag_on}
use Rattle.view.proofs.directory.covers_kind.Goals as goal

-- `view::directory::covers_kind` meets its contract. Assumes nothing.
pub returns-then-flags-eq0 : goal.returns-then-flags-eq0
returns-then-flags-eq0 c = rw (flag_off 3 c.args.flags c.if-flags-eq0.true)

pub returns : goal.returns
returns c = rw (flag_on 3 c.args.flags c.if-flags-eq0.false)
