use Prim.Native.Nat.{◌+◌}
use borrow.Author.Tests.{le-leb, lt-leb}
use Rattle.model.specs.Views.{pool_range}
use Rattle.tables.proofs.pool_place.Goals as goal

-- `tables::pool_place` meets its contract. Assumes nothing.
pub returns-then-end-len : goal.returns-then-end-len
unfolding pool_range
returns-then-end-len c = let g = c.args in rw (le-leb (g.offset + g.size) g.len c.if-end-len.true)

pub returns-else-end-len : goal.returns-else-end-len
unfolding pool_range
returns-else-end-len c = let g = c.args in rw (lt-leb (g.offset + g.size) g.len c.if-end-len.false)
