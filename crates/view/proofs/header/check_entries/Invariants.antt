use mathlib.Core.Path.{◌≡◌}
use lib.ListN.{length, drop}
use Rattle.model.specs.Layout.{directory_of}
use Rattle.model.specs.Parse.{entries_verdict}
use Rattle.view.proofs.header.check_entries.Given as goal

-- `view::header::check_entries` meets its contract. The invariant: the verdict on the entries that are left is the whole verdict. Assumes nothing.
abbrev pub invariant-loop-i : goal.invariant-loop-i
invariant-loop-i l = entries_verdict (length l.directory.bytes.now) l.i (drop l.i (directory_of l.directory.count l.directory.bytes.now)) ≡ entries_verdict (length l.directory.bytes.now) 0 (directory_of l.directory.count l.directory.bytes.now)
