use mathlib.Core.Path.{sym, ap, ◌∙◌}
use mathlib.Core.Bool.{not, ◌||◌, or-false}
use Rattle.std.specs.Prelude.{Option}
use Prim.Native.Nat.{ℕ}
use native.Mathlib.Nat.{sub-zero}
use native.Mathlib.Omega.{arith}
use lib.Dec.{eqb}
use Rattle.lemmas.specs.Steps.{is_some}
use Rattle.overlap.specs.Spans.{overlaps_from}
use Rattle.overlap.proofs.SpanLaw.{any_next, none_left, hit_small}
use Rattle.overlap.proofs.spans.SpanTable.meet.Goals as goal

pub loop-j-init : goal.loop-j-init
loop-j-init c =
    let g = c.args in
    (omega arith, ap (λ (k : ℕ). is_some (overlaps_from g.first g.last g.self.now.first g.self.now.last 0 k)) (sub-zero g.n))

pub loop-j-preserved : goal.loop-j-preserved
loop-j-preserved c =
    let l = c.loop-j in
    let g = c.args in
    let t = c.ranges_overlap in
    (omega (arith, hit_small t.result), any_next g.first g.last g.self.now.first g.self.now.last l.j g.n (omega arith) t.result t.ensures l.hits ∙ l.invariant.1)

pub returns : goal.returns
returns c =
    let l = c.loop-j in
    let g = c.args in
    sym (or-false (not (eqb l.hits 0)))
    ∙ ap (λ (o : Option ℕ). not (eqb l.hits 0) || is_some o) (sym (none_left g.first g.last g.self.now.first g.self.now.last l.j g.n (omega arith)))
    ∙ l.invariant.1

pub overflow_add-hits : goal.overflow_add-hits
overflow_add-hits c = omega (arith, hit_small c.ranges_overlap.result)
