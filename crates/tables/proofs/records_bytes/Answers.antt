use Rattle.std.proofs.Common.{length}
use Rattle.layout.specs.Regions.{as_entry}
use Rattle.tables.proofs.PartLaw.{span_inside, of_span}
use Rattle.tables.proofs.Within.{table_within}
use Rattle.tables.proofs.records_bytes.Goals as goal

-- `tables::records_bytes` meets its contract. Assumes nothing.
pub part_at-requires : goal.part_at-requires
part_at-requires c = let g = c.args in let n = length g.bytes.now in rw c.ok.ensures.value (span_inside n _ _ c.records_span.ensures (table_within n (as_entry g.region) g.stride))

pub returns : goal.returns
returns c = of_span _ _ _ _ _ c.ok.ensures.value c.records_span.ensures c.part_at.ensures
