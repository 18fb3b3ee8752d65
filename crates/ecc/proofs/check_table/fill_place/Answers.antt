use Prim.Native.Nat.{◌*◌}
use native.Mathlib.Omega.{arith}
use Rattle.ecc.proofs.CheckTableLaw.{first, put}
use Rattle.ecc.proofs.check_table.fill_place.Goals as goal

pub loop-i-init : goal.loop-i-init
loop-i-init c =
    let g = c.args in put (256 * g.k) 0 g.table.now (omega arith) (first g.k) c.requires.2
