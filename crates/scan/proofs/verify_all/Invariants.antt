use mathlib.Core.Path.{◌≡◌}
use Prim.Native.Nat.{◌*◌, ◌^◌, ◌≤◌}
use Rattle.scan.specs.Answers.{as_scan}
use Rattle.scan.specs.Tally.{or_zeros}
use Rattle.scan.proofs.VisitLaw.{scanned_to}
use Rattle.scan.proofs.verify_all.Given as goal

-- `scan::verify_all` meets its contract. The invariant: the entries before i are scanned. Assumes nothing.
abbrev pub invariant-loop-i : goal.invariant-loop-i
invariant-loop-i l = (as_scan l.total ≡ scanned_to l.bytes l.header.region_count l.i) × ((or_zeros (as_scan l.total)).words ≤ l.i * 2 ^ 32)
