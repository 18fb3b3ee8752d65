use Prim.Native.Nat.{◌+◌, ◌*◌, ◌^◌}
use Rattle.ecc.specs.CheckTable.{Filled}
use Rattle.ecc.proofs.check_table.fill_place.Given as goal

-- `ecc::check_table::fill_place` meets its contract. The invariant: the table is filled up to byte 2 ^ i of the place. Assumes nothing.
abbrev pub invariant-loop-i : goal.invariant-loop-i
invariant-loop-i l = Filled (256 * l.k + 2 ^ l.i) l.table
