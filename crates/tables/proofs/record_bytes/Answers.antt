use Rattle.std.proofs.Common.{length}
use Rattle.tables.proofs.PartLaw.{place_inside}
use Rattle.tables.proofs.Within.{record_within}
use Rattle.tables.proofs.record_bytes.Goals as goal

-- `tables::record_bytes` meets its contract. Assumes nothing.
pub part_at-requires : goal.part_at-requires
part_at-requires c = let g = c.args in let n = length g.bytes.now in place_inside n _ _ c.record_place.ensures (record_within n g.stride g.index)
