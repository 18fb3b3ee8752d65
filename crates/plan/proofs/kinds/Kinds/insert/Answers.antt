use Rattle.std.proofs.Common.{ℕ, ◌/◌, get_or, set, ap}
use lib.Bits.{bit_or}
use Rattle.plan.specs.Checking.{with_mark}
use Rattle.plan.proofs.kinds.Kinds.insert.Goals as goal

-- `plan::kinds::Kinds::insert` meets its contract. Assumes nothing.
pub returns : goal.returns
unfolding with_mark
returns c = let g = c.args in ap (λ (m : ℕ). set g.self.now.bits (g.kind / 64) (bit_or (get_or g.self.now.bits (g.kind / 64) 0) m)) c.bit_of.ensures
