use borrow.Author.Tests.{lt-ltb, le-ltb}
use Rattle.model.specs.Views.{range_is_forward}
use Rattle.tables.proofs.range_is_forward.Goals as goal

-- `tables::range_is_forward` meets its contract. Assumes nothing.
pub returns-then-first-at : goal.returns-then-first-at
unfolding range_is_forward
returns-then-first-at c = let g = c.args in rw (le-ltb g.at g.first c.if-first-at.true)

pub returns : goal.returns
unfolding range_is_forward
returns c = let g = c.args in rw (lt-ltb g.at g.first c.if-first-at.false, c.record_count.ensures)
