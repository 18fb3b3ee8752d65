use mathlib.Core.Path.{refl, sym, ap, ◌∙◌}
use native.Mathlib.Omega.{arith}
use Rattle.std.specs.Prelude.{Some}
use Rattle.model.specs.Layout.{directory_of}
use Rattle.model.specs.Views.{plane_for}
use Rattle.model.proofs.LayoutLaw.{walk, walked}
use Rattle.model.proofs.WalkLaw.{first_here, first_next, first_end}
use Rattle.model.specs.Steps.{entry_in}
use Rattle.view.specs.Answers.{found_as}
use Rattle.view.proofs.EntriesForLaw.{plane_test}
use Rattle.view.proofs.directory.Directory.plane_of.Goals as goal

pub loop-i-init : goal.loop-i-init
loop-i-init c = refl

pub returns-then-covers_kind : goal.returns-then-covers_kind
returns-then-covers_kind c =
    let g = c.args.self in
    let k = c.args.kind in
    let x = g.bytes.now in
    ap Some c.region.ensures
    ∙ ap found_as (sym (sym c.loop-i.invariant ∙ first_here (directory_of g.count x) c.loop-i.i (entry_in g.count x c.loop-i.i) (walk g.count x c.loop-i.i (omega arith)) (plane_for k)
    (plane_test g.count x c.loop-i.i k c.number_at.result c.number_at-in-loop-i.result c.covers_kind.result
    c.number_at.ensures c.number_at-in-loop-i.ensures c.covers_kind.ensures ∙ c.if-covers_kind.true)))

pub loop-i-preserved : goal.loop-i-preserved
loop-i-preserved c =
    let g = c.args.self in
    let k = c.args.kind in
    let x = g.bytes.now in
    first_next (directory_of g.count x) c.loop-i.i (entry_in g.count x c.loop-i.i) (walk g.count x c.loop-i.i (omega arith)) (plane_for k)
    (plane_test g.count x c.loop-i.i k c.number_at.result c.number_at-in-loop-i.result c.covers_kind.result
    c.number_at.ensures c.number_at-in-loop-i.ensures c.covers_kind.ensures ∙ c.if-covers_kind.false) ∙ c.loop-i.invariant

pub returns : goal.returns
returns c =
    let g = c.args.self in
    let x = g.bytes.now in
    ap found_as (sym (sym c.loop-i.invariant ∙ first_end (directory_of g.count x) c.loop-i.i (walked g.count x c.loop-i.i (omega arith)) (plane_for c.args.kind)))
