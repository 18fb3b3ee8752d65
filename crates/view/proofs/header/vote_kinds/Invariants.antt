use mathlib.Core.Path.{◌≡◌}
use Prim.Native.Nat.{ℕ, ◌<◌}
use lib.ListN.{length, get_or}
use Rattle.model.specs.Layout.{directory_of}
use Rattle.view.specs.Kinds.{kinds_of}
use Rattle.view.proofs.header.vote_kinds.Given as goal

-- `view::header::vote_kinds` meets its contract. The invariant: the kinds passed are voted. Assumes nothing.
abbrev pub invariant-loop-i : goal.invariant-loop-i
invariant-loop-i l = (length l.kinds ≡ l.directory.count) × ((p : ℕ) → p < l.i → get_or l.kinds p 0 ≡ get_or (kinds_of (directory_of l.directory.count l.directory.bytes.now)) p 0)
