use Prim.Native.Nat.{◌%◌}
use borrow.Author.Tests.{eq-eqb, ne_eqb}
use Rattle.model.specs.Views.{is_table}
use Rattle.tables.proofs.is_table.Goals as goal

-- `tables::is_table` meets its contract. Assumes nothing.
pub returns-then-stride-eq0 : goal.returns-then-stride-eq0
unfolding is_table
returns-then-stride-eq0 c = rw (eq-eqb c.args.stride 0 c.if-stride-eq0.true)

pub returns-then-stride-ne0 : goal.returns-then-stride-ne0
unfolding is_table
returns-then-stride-ne0 c = let g = c.args in rw (ne_eqb g.stride 0 c.if-stride-eq0.false, ne_eqb (g.stride % 8) 0 c.if-stride-ne0.true)

pub returns : goal.returns
unfolding is_table
returns c = let g = c.args in rw (ne_eqb g.stride 0 c.if-stride-eq0.false, eq-eqb (g.stride % 8) 0 c.if-stride-ne0.false)
