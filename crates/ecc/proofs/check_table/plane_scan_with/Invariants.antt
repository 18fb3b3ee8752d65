use Prim.Native.Nat.{◌≤◌}
use Rattle.model.specs.Scan.{is_corrected, is_uncorrectable}
use Rattle.ecc.proofs.PlaneLaw.{Counted}
use Rattle.ecc.proofs.check_table.plane_scan_with.Given as goal

-- `ecc::check_table::plane_scan_with` meets its contract. The invariant: what was counted, with the count of the words to come, is the report's.
abbrev pub invariant-loop-w : goal.invariant-loop-w
invariant-loop-w l =
    (l.corrected ≤ l.w) × (l.uncorrectable ≤ l.w)
    × Counted is_corrected l.table l.data l.parity l.w l.corrected × Counted is_uncorrectable l.table l.data l.parity l.w l.uncorrectable
