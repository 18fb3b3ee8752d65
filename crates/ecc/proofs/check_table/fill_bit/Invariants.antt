use mathlib.Core.Path.{◌≡◌}
use Prim.Native.Nat.{◌+◌, ◌^◌, ◌≤◌}
use Rattle.ecc.specs.CheckTable.{Filled}
use Rattle.ecc.proofs.check_table.fill_bit.Given as goal

-- `ecc::check_table::fill_bit` meets its contract. The invariant: the table is filled up to entry `first + count + j`. Assumes nothing.
abbrev pub invariant-loop-j : goal.invariant-loop-j
invariant-loop-j l =
    (l.count ≡ 2 ^ l.i) × (l.count + l.count ≤ 256) × Filled (l.first + l.count + l.j) l.table
