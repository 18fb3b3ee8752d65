use mathlib.Core.Path.{◌≡◌}
use Prim.Native.Nat.{ℕ, ◌+◌, ◌<◌}
use lib.ListN.{length}
use Rattle.model.specs.Bytes.{at}
use Rattle.model.specs.Layout.{voted}
use Rattle.view.proofs.vote.Copies.bytes_at.Given as goal

-- `view::vote::Copies::bytes_at` meets its contract. The invariant: the bytes passed are voted. Assumes nothing.
abbrev pub invariant-loop-j : goal.invariant-loop-j
invariant-loop-j g l = (length l.bytes ≡ g.row.N) × ((q : ℕ) → q < l.j → at l.bytes q ≡ at (voted l.self.base l.self.len l.self.bytes.now) (l.p + q))
