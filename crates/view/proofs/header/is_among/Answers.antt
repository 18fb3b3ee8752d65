use mathlib.Core.Path.{refl, sym, ap, ◌∙◌}
use mathlib.Core.Bool.{Bool, ◌||◌}
use Prim.Native.Nat.{◌+◌}
use native.Mathlib.Omega.{arith}
use lib.ListN.{drop}
use Rattle.view.specs.Kinds.{elem}
use Rattle.view.proofs.KindsLaw.{elem_hit, elem_miss, elem_end}
use Rattle.view.proofs.header.is_among.Goals as goal
use Rattle.view.proofs.header.is_among.Goals.{then-other-kind, else-other-kind}

pub loop-other-init : goal.loop-other-init
loop-other-init c = refl

pub loop-other-preserved : goal.loop-other-preserved
loop-other-preserved c =
    let g = c.args in
    let j = c.loop-other.other-index in
    elim c.if-other-kind.branch [
      | then-other-kind w ↦ ap (λ (t : Bool). t || elem g.kind (drop (j + 1) g.kinds.now)) w.found-is ∙ elem_hit g.kind g.kinds.now j (omega arith) c.loop-other.found w.if-other-kind.true
      | else-other-kind w ↦ ap (λ (t : Bool). t || elem g.kind (drop (j + 1) g.kinds.now)) w.found-is ∙ elem_miss g.kind g.kinds.now j (omega arith) c.loop-other.found w.if-other-kind.false
    ] ∙ c.loop-other.invariant

pub returns : goal.returns
returns c =
    let g = c.args in
    sym (elem_end g.kind g.kinds.now c.loop-other.other-index c.loop-other.found (omega arith)) ∙ c.loop-other.invariant
