use mathlib.Core.Path.{◌≡◌}
use mathlib.Core.Bool.{not, ◌||◌}
use Prim.Native.Nat.{◌-◌, ◌≤◌}
use lib.Dec.{eqb}
use Rattle.lemmas.specs.Steps.{is_some}
use Rattle.overlap.specs.Spans.{overlaps_from}
use Rattle.overlap.proofs.spans.SpanTable.meet.Given as goal

-- `overlap::spans::SpanTable::meet` meets its contract. The invariant: there are hits, or what is left has one, if there is one at all. Assumes nothing.
abbrev pub invariant-loop-j : goal.invariant-loop-j
invariant-loop-j l = (l.hits ≤ l.j) × (not (eqb l.hits 0) || is_some (overlaps_from l.first l.last l.self.first l.self.last l.j (l.n - l.j)) ≡ is_some (overlaps_from l.first l.last l.self.first l.self.last 0 l.n))
