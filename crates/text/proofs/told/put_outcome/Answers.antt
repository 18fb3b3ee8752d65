use native.Mathlib.Omega.{arith}
use Rattle.put.proofs.LinesLaw.{put_last_line}
use Rattle.text.proofs.told.put_outcome.Goals as goal

-- `text::told::put_outcome` meets its contract: a line and its line feed. Assumes nothing.
pub returns : goal.returns
returns c =
    let line = c.put_said-end in
    let end = c.put_line_feed in
    record { is = put_last_line c.args.out.now 0 _ line.ensures.is end.ensures.is; few = omega (arith, line.ensures.few, end.ensures.few) }
