use Prim.Native.Nat.{◌*◌}
use Rattle.ecc.specs.CheckTable.{Filled}
use Rattle.ecc.proofs.check_table.fill_check_table.Given as goal

-- `ecc::check_table::fill_check_table` meets its contract. The invariant: the places passed are filled. Assumes nothing.
abbrev pub invariant-loop-k : goal.invariant-loop-k
invariant-loop-k l = Filled (256 * l.k) l.table
