use Rattle.std.proofs.Common.{length}
use Rattle.tables.proofs.PartLaw.{place_inside}
use Rattle.tables.proofs.Within.{pool_within}
use Rattle.tables.proofs.pool_bytes.Goals as goal

-- `tables::pool_bytes` meets its contract. Assumes nothing.
pub part_at-requires : goal.part_at-requires
part_at-requires c = let g = c.args in let n = length g.bytes.now in place_inside n _ _ c.pool_place.ensures (pool_within n g.offset g.size)
