use mathlib.Core.Path.{◌≡◌, sym, ap, ap₂, ◌∙◌, subst}
use mathlib.Core.List.{List}
use Prim.Native.Nat.{ℕ, ◌≤◌, ◌<◌}
use native.Mathlib.Omega.{arith}
use lib.ListN.{length}
use Rattle.std.specs.Prelude.{None, Some}
use Rattle.model.specs.Layout.{Entry, directory_of, start, end}
use Rattle.model.specs.Views.{first_that, plane_for}
use Rattle.view.specs.Answers.{found_as}
use Rattle.model.specs.Views.{range, ecc_for}
use Rattle.model.specs.Layout.{header_length}
use Rattle.layout.specs.declared.Region.{Region}
use Rattle.layout.specs.Regions.{region_of, as_entry}
use Rattle.view.proofs.AnswersLaw.{found_some, found_none}
use Rattle.view.proofs.EntriesForLaw.{ecc_short, ecc_none, ecc_past, ecc_there}
use denote.Ref.{Bor}
use Rattle.tables.specs.Answers.{as_place}
use Rattle.view.proofs.regions.ecc_for.Goals as goal

-- `view::regions::ecc_for` meets its contract. Assumes nothing.
-- the first plane that covers the kind is handed out as p
module _ (n : ℕ) (x : List ℕ) (k : ℕ) (h : header_length n ≤ length x) (p : Region) (f : Some p ≡ found_as (first_that (plane_for k) (directory_of n x))) where
  plane : (e : Entry) × (first_that (plane_for k) (directory_of n x) ≡ Some e) × (p ≡ region_of e)
  plane = found_some (first_that (plane_for k) (directory_of n x)) p f

  ends : end (as_entry p) ≡ end plane.0
  ends = ap (λ (r : Region). end (as_entry r)) plane.2

  past_end : (b : ℕ) → b ≡ end (as_entry p) → length x < b → None ≡ ecc_for n x k
  past_end b q l = sym (ecc_past n x k h plane.0 plane.1 (subst (λ (z : ℕ). length x < z) (q ∙ ends) l))

  there : (a b : ℕ) → a ≡ start (as_entry p) → b ≡ end (as_entry p) → b ≤ length x → Some (range a b) ≡ ecc_for n x k
  there a b o q l =
      ap₂ (λ (i j : ℕ). Some (range i j)) (o ∙ ap (λ (r : Region). start (as_entry r)) plane.2) (q ∙ ends)
      ∙ sym (ecc_there n x k h plane.0 plane.1 (subst (λ (z : ℕ). z ≤ length x) (q ∙ ends) l))

pub returns-in_err-directory : goal.returns-in_err-directory
returns-in_err-directory c =
    let g = c.args in
    ap as_place c.from_residual.ensures ∙ sym (ecc_short g.header.region_count g.bytes.now g.region.kind c.in_err-directory.ensures)

pub returns-in_err-plane : goal.returns-in_err-plane
returns-in_err-plane c =
    let k = c.args.region.kind in
    let d = c.in_ok-directory.directory in
    let f = c.in_ok-directory.ensures in
    ap as_place c.from_residual-in_err-plane.ensures
    ∙ sym (ecc_none d.count d.bytes.now k d.fits (found_none (first_that (plane_for k) (directory_of d.count d.bytes.now)) c.in_err-plane.ensures))
    ∙ ap₂ (λ (m : ℕ) (b : Bor (List ℕ)). ecc_for m b.now k) f.1 f.0

pub returns-then-bytes-end : goal.returns-then-bytes-end
returns-then-bytes-end c =
    let k = c.args.region.kind in
    let d = c.in_ok-directory.directory in
    let f = c.in_ok-directory.ensures in
    past_end d.count d.bytes.now k d.fits c.in_ok-plane.plane c.in_ok-plane.ensures _ c.byte_end-end.ensures (omega (arith, ap (λ (b : Bor (List ℕ)). length b.now) f.0, c.if-bytes-end.true))
    ∙ ap₂ (λ (m : ℕ) (b : Bor (List ℕ)). ecc_for m b.now k) f.1 f.0

pub returns : goal.returns
returns c =
    let k = c.args.region.kind in
    let d = c.in_ok-directory.directory in
    let f = c.in_ok-directory.ensures in
    there d.count d.bytes.now k d.fits c.in_ok-plane.plane c.in_ok-plane.ensures _ _ c.byte_offset.ensures c.byte_end-end.ensures (omega (arith, ap (λ (b : Bor (List ℕ)). length b.now) f.0, c.if-bytes-end.false))
    ∙ ap₂ (λ (m : ℕ) (b : Bor (List ℕ)). ecc_for m b.now k) f.1 f.0
