use mathlib.Core.Path.{refl, sym, ap, ap₂, ◌∙◌}
use Prim.Native.Nat.{ℕ}
use mathlib.Core.List.{List}
use denote.Ref.{Bor}
use native.Mathlib.Omega.{arith}
use Rattle.std.specs.Prelude.{Some}
use Rattle.model.specs.Layout.{directory_of}
use Rattle.model.specs.Views.{of_kind, find_region}
use Rattle.model.proofs.LayoutLaw.{walk, walked}
use Rattle.model.proofs.WalkLaw.{first_here, first_next, first_end}
use Rattle.model.specs.Steps.{entry_in}
use Rattle.view.specs.Answers.{found_as}
use Rattle.view.proofs.EntriesForLaw.{find_short, find_long, kind_test, kind_test_not}
use Rattle.view.proofs.regions.find_region.Goals as goal

pub returns-in_err-directory : goal.returns-in_err-directory
returns-in_err-directory c =
    let g = c.args in
    c.from_residual.ensures ∙ ap found_as (sym (find_short g.header.region_count g.bytes.now g.kind c.in_err-directory.ensures))

pub loop-i-init : goal.loop-i-init
loop-i-init c = refl

pub returns-then-found-kind : goal.returns-then-found-kind
returns-then-found-kind c =
    let k = c.args.kind in
    let d = c.in_ok-directory.directory in
    let f = c.in_ok-directory.ensures in
    let n = d.count in
    let x = d.bytes.now in
    let i = c.loop-i.i in
    ap Some c.region.ensures
    ∙ ap found_as (sym (find_long n x k d.fits
    ∙ sym c.loop-i.invariant ∙ first_here (directory_of n x) i (entry_in n x i) (walk n x i (omega arith)) (of_kind k)
    (kind_test n x i k c.number_at-found.result c.number_at-found.ensures c.if-found-kind.true)))
    ∙ ap₂ (λ (m : ℕ) (b : Bor (List ℕ)). found_as (find_region m b.now k)) f.1 f.0

pub loop-i-preserved : goal.loop-i-preserved
loop-i-preserved c =
    let k = c.args.kind in
    let d = c.in_ok-directory.directory in
    let n = d.count in
    let x = d.bytes.now in
    let i = c.loop-i.i in
    first_next (directory_of n x) i (entry_in n x i) (walk n x i (omega arith)) (of_kind k)
    (kind_test_not n x i k c.number_at-found.result c.number_at-found.ensures c.if-found-kind.false) ∙ c.loop-i.invariant

pub returns : goal.returns
returns c =
    let k = c.args.kind in
    let d = c.in_ok-directory.directory in
    let f = c.in_ok-directory.ensures in
    let n = d.count in
    let x = d.bytes.now in
    ap found_as (sym (find_long n x k d.fits ∙ sym c.loop-i.invariant
    ∙ first_end (directory_of n x) c.loop-i.i (walked n x c.loop-i.i (omega arith)) (of_kind k)))
    ∙ ap₂ (λ (m : ℕ) (b : Bor (List ℕ)). found_as (find_region m b.now k)) f.1 f.0
