use mathlib.Core.Path.{◌≡◌}
use Prim.Native.Nat.{◌*◌, ◌^◌, ◌≤◌}
use lib.ListN.{length}
use Rattle.scan.specs.Answers.{as_scan}
use Rattle.scan.specs.Tally.{or_zeros}
use Rattle.mending.proofs.MendingLaw.{fixed_to, reported_to}
use Rattle.mending.proofs.words.mend_words.Given as goal

-- `mending::words::mend_words` meets its contract. The invariant: the entries before i are done and counted. Assumes nothing.
abbrev pub invariant-loop-i : goal.invariant-loop-i
invariant-loop-i l = (length l.bytes ≡ length l.initial.bytes) × ((or_zeros (as_scan l.total)).words ≤ l.i * 2 ^ 32) × (l.bytes ≡ fixed_to l.initial.bytes l.i) × (as_scan l.total ≡ reported_to l.initial.bytes l.i)
