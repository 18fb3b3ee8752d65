use mathlib.Core.Path.{◌≡◌}
use Prim.Native.Nat.{◌-◌}
use Rattle.overlap.specs.Spans.{overlaps_from}
use Rattle.overlap.proofs.spans.SpanTable.lowest_met.Given as goal

-- `overlap::spans::SpanTable::lowest_met` meets its contract. The invariant: what is left decides. Assumes nothing.
abbrev pub invariant-loop-j : goal.invariant-loop-j
invariant-loop-j l = overlaps_from l.first l.last l.self.first l.self.last l.j (l.n - l.j) ≡ overlaps_from l.first l.last l.self.first l.self.last 0 l.n
