use Rattle.std.proofs.Common.{ℕ, ◌/◌, ◌%◌, not, eqb, get_or, ap, ◌∙◌}
use lib.Bits.{bit_and}
use Rattle.layout.proofs.FlagLaw.{flag}
use Rattle.plan.specs.Checking.{marked}
use Rattle.plan.proofs.kinds.Kinds.contains.Goals as goal

-- `plan::kinds::Kinds::contains` meets its contract. Assumes nothing.
pub returns : goal.returns
unfolding marked
returns c = let g = c.args in let w : ℕ = get_or g.self.now.bits (g.kind / 64) 0 in ap (λ (m : ℕ). not (eqb (bit_and w m) 0)) c.bit_of.ensures ∙ flag (g.kind % 64) w
