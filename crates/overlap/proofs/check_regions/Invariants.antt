use mathlib.Core.Path.{◌≡◌}
use lib.ListN.{length}
use Rattle.model.specs.Views.{entries_for}
use Rattle.view.specs.Answers.{as_header}
use Rattle.overlap.specs.Spans.{Holds}
use Rattle.overlap.proofs.ApartLaw.{left_from}
use Rattle.overlap.proofs.check_regions.Given as goal

-- `overlap::check_regions` meets its contract. The invariant: what is left to check decides, and the entries passed are noted. Assumes nothing.
abbrev pub invariant-loop-i : goal.invariant-loop-i
invariant-loop-i l = (length l.spans.first ≡ 1024) × (length l.spans.last ≡ 1024) × (left_from (as_header l.header) (entries_for l.header.region_count l.bytes) l.i ≡ left_from (as_header l.header) (entries_for l.header.region_count l.bytes) 0) × Holds (entries_for l.header.region_count l.bytes) l.i l.spans l.high
