use native.Mathlib.Omega.{arith}
use Rattle.model.specs.Programs.{text, too_long_line}
use Rattle.text.proofs.line.put_too_long.Goals as goal

-- `text::line::put_too_long` meets its contract. Assumes nothing.
pub returns : goal.returns
unfolding too_long_line text
returns c = let all = c.put_bytes in record { is = all.ensures; few = omega (arith, all.ensures.behind) }
