use mathlib.Core.Path.{sym, ◌∙◌}
use native.Mathlib.Omega.{arith}
use Rattle.overlap.proofs.SpanLaw.{lowest_here, lowest_next, none_left}
use Rattle.overlap.proofs.spans.SpanTable.lowest_met.Goals as goal

pub returns-then-ranges_overlap : goal.returns-then-ranges_overlap
returns-then-ranges_overlap c =
    let t = c.ranges_overlap in
    let l = c.loop-j in
    let g = c.args in
    sym (lowest_here g.first g.last g.self.now.first g.self.now.last l.j g.n (omega arith) t.result t.ensures c.if-ranges_overlap.true) ∙ l.invariant

pub loop-j-preserved : goal.loop-j-preserved
loop-j-preserved c =
    let t = c.ranges_overlap in
    let l = c.loop-j in
    let g = c.args in
    lowest_next g.first g.last g.self.now.first g.self.now.last l.j g.n (omega arith) t.result t.ensures c.if-ranges_overlap.false ∙ l.invariant

pub returns : goal.returns
returns c =
    let l = c.loop-j in
    let g = c.args in
    sym (none_left g.first g.last g.self.now.first g.self.now.last l.j g.n (omega arith)) ∙ l.invariant
