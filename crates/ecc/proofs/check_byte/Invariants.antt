use mathlib.Core.Path.{◌≡◌}
use Prim.Native.Nat.{◌/◌, ◌^◌}
use lib.Bits.{bit_xor}
use lib.ListN.{take, drop}
use Rattle.bits.specs.Linear.{xor_columns}
use Rattle.model.specs.Parity.{columns, check_of}
use Rattle.ecc.proofs.check_byte.Given as goal

abbrev pub invariant-loop-i : goal.invariant-loop-i
invariant-loop-i l =
    bit_xor l.s (xor_columns (drop l.i (take 64 columns)) (l.data / 2 ^ l.i)) ≡ check_of l.data
