use borrow.Author.Tests.{eq-eqb, ne_eqb}
use Rattle.model.specs.Views.{record_count}
use Rattle.tables.proofs.record_count.Goals as goal

-- `tables::record_count` meets its contract. Assumes nothing.
pub returns-then-stride-eq0 : goal.returns-then-stride-eq0
unfolding record_count
returns-then-stride-eq0 c = rw (eq-eqb c.args.stride 0 c.if-stride-eq0.true)

pub returns-else-stride-eq0 : goal.returns-else-stride-eq0
unfolding record_count
returns-else-stride-eq0 c = rw (ne_eqb c.args.stride 0 c.if-stride-eq0.false)
