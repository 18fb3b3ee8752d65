use native.Mathlib.Omega.{arith}
use Rattle.layout.proofs.Region.byte_end.Goals as goal

-- `layout::Region::byte_end` meets its contract. Assumes nothing.
pub returns : goal.returns
returns c = omega arith
