use mathlib.Core.Path.{sym, ap, ◌∙◌}
use mathlib.Core.Bool.{Bool}
use Prim.Native.Nat.{◌/◌}
use lib.Bits.{bit_xor, xor_zero_r}
use Rattle.bits.specs.Linear.{pick}
use Rattle.bits.proofs.BitLaw.{low_off}
use Rattle.model.specs.Crc.{POLY, step_r}
use Rattle.crc.proofs.low_bit_step.Goals as goal

pub returns-else-crc-eq1 : goal.returns-else-crc-eq1
unfolding step_r
returns-else-crc-eq1 c =
    let s = c.args.crc in
    sym (xor_zero_r (s / 2)) ∙ ap (λ (t : Bool). bit_xor (s / 2) (pick t POLY)) (sym (low_off s c.if-crc-eq1.false))
