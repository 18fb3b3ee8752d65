use mathlib.Core.Path.{◌≡◌, sym, ◌∙◌}
use mathlib.Core.Bool.{false}
use native.Mathlib.Omega.{arith}
use borrow.Author.Count.{below_more}
use Rattle.model.proofs.CopiesLaw.{off_at, differs_none, differs_here}
use Rattle.view.proofs.vote.Copies.differ.Goals as goal

pub loop-j-init : goal.loop-j-init
loop-j-init c = λ p h. absurd (omega arith)

pub returns-then-differ_at : goal.returns-then-differ_at
returns-then-differ_at c =
    let g = c.args.self in
    sym (differs_here g.base g.len g.bytes.now g.fit c.loop-j.j (omega arith) (sym c.differ_at.ensures ∙ c.if-differ_at.true))

pub loop-j-preserved : goal.loop-j-preserved
loop-j-preserved c =
    let g = c.args.self in
    below_more (λ p. off_at g.base g.len g.bytes.now p ≡ false) c.loop-j.j c.loop-j.invariant (sym c.differ_at.ensures ∙ c.if-differ_at.false)

pub returns : goal.returns
returns c =
    let g = c.args.self in
    sym (differs_none g.base g.len g.bytes.now g.fit (λ j h. c.loop-j.invariant j (omega arith)))
