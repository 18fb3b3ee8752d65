use Prim.Native.Nat.{◌+◌, ◌*◌, ◌<◌}
use native.Mathlib.Omega.{arith}
use borrow.Author.Tests.{lt-ltb, le-ltb, le-leb, lt-leb}
use Rattle.model.specs.Views.{record_range}
use Rattle.tables.proofs.Within.{fits_in, fits_not}
use Rattle.tables.proofs.record_place.Goals as goal

-- `tables::record_place` meets its contract. Assumes nothing.
pub returns-then-stride-eq0 : goal.returns-then-stride-eq0
unfolding record_range
returns-then-stride-eq0 c = rw (le-ltb 0 c.args.stride (omega arith))

pub overflow_mul-start : goal.overflow_mul-start
overflow_mul-start c = let g = c.args in omega (arith, fits_in g.len g.stride g.index (omega arith) c.if-index-len.true)

pub overflow_add-result : goal.overflow_add-result
overflow_add-result c = let g = c.args in omega (arith, fits_in g.len g.stride g.index (omega arith) c.if-index-len.true)

pub returns-then-index-len : goal.returns-then-index-len
unfolding record_range
returns-then-index-len c =
    let g = c.args in
    let h : 0 < g.stride = omega arith in
    rw (lt-ltb 0 g.stride h, le-leb (g.index * g.stride + g.stride) g.len (fits_in g.len g.stride g.index h c.if-index-len.true))

pub returns-else-index-len : goal.returns-else-index-len
unfolding record_range
returns-else-index-len c =
    let g = c.args in
    let h : 0 < g.stride = omega arith in
    rw (lt-ltb 0 g.stride h, lt-leb (g.index * g.stride + g.stride) g.len (fits_not g.len g.stride g.index h c.if-index-len.false))
