use native.Mathlib.Omega.{arith}
use Rattle.model.specs.Programs.{text}
use Rattle.text.proofs.line.put_line_feed.Goals as goal

-- `text::line::put_line_feed` meets its contract. Assumes nothing.
pub returns : goal.returns
unfolding text
returns c = let all = c.put_bytes in record { is = all.ensures; few = omega (arith, all.ensures.behind) }
