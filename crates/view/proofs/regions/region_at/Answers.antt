use mathlib.Core.Path.{sym, ap, ap₂, ◌∙◌}
use Prim.Native.Nat.{ℕ}
use mathlib.Core.List.{List}
use denote.Ref.{Bor}
use native.Mathlib.Omega.{arith}
use Rattle.std.specs.Prelude.{Some}
use Rattle.model.specs.Views.{region_at}
use Rattle.view.specs.Answers.{found_as}
use Rattle.view.proofs.EntriesForLaw.{region_short, region_past, region_in}
use Rattle.view.proofs.regions.region_at.Goals as goal

-- `view::regions::region_at` meets its contract. Assumes nothing.
pub returns-in_err-directory : goal.returns-in_err-directory
returns-in_err-directory c =
    let g = c.args in
    c.from_residual.ensures ∙ ap found_as (sym (region_short g.header.region_count g.bytes.now g.index c.in_err-directory.ensures))

pub returns-then-directory-index : goal.returns-then-directory-index
returns-then-directory-index c =
    let g = c.args in
    let d = c.in_ok-directory.directory in
    let f = c.in_ok-directory.ensures in
    ap found_as (sym (region_past d.count d.bytes.now g.index d.fits c.if-directory-index.true))
    ∙ ap₂ (λ (n : ℕ) (b : Bor (List ℕ)). found_as (region_at n b.now g.index)) f.1 f.0

pub returns : goal.returns
returns c =
    let g = c.args in
    let d = c.in_ok-directory.directory in
    let f = c.in_ok-directory.ensures in
    ap Some c.region.ensures ∙ ap found_as (sym (region_in d.count d.bytes.now g.index d.fits (omega (arith, c.if-directory-index.false))))
    ∙ ap₂ (λ (n : ℕ) (b : Bor (List ℕ)). found_as (region_at n b.now g.index)) f.1 f.0
