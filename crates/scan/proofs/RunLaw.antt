-- The run of an entry, as its plane's place and its own bounds tell. Assumes nothing.
use mathlib.Core.Path.{◌≡◌, refl, sym, ap, ap₂, ◌∙◌, subst}
use mathlib.Core.Bool.{Bool, true, false, ◌&&◌, cond}
use mathlib.Core.List.{List, [], ◌∷◌}
use Rattle.std.specs.Prelude.{Option, None, Some, Result, Ok, Err}
use Rattle.tables.specs.declared.Place.{Place}
use Prim.Native.Nat.{ℕ, zero, suc, ◌+◌, ◌-◌, ◌*◌, ◌^◌, ◌≤◌, ◌<◌, min}
use native.Mathlib.Nat.{min-le_left, min-le_right}
use native.Mathlib.Omega.{arith}
use lib.Dec.{leb}
use lib.ListN.{length}
use Rattle.model.specs.Bytes.{given}
use Rattle.model.specs.Layout.{Entry, end}
use Rattle.model.specs.Views.{bytes_span, first_that, plane_for, entries_for, ecc_for, region_at}
use Rattle.model.specs.Scan.{report, plane_of, plane_within, is_protected, Visit, visit_with, visit_of, codewords_from, words_of, codewords_in, classes_at}
use Rattle.model.specs.Scrub.{visit_at}
use Rattle.model.proofs.PlaneLaw as plane-law
use Rattle.model.proofs.ScanLaw.{length_classes, codewords_one, visit_plain, visit_protected}
use Rattle.model.specs.Steps.{any_of}
use Rattle.error.specs.declared.Refusal.{Refusal}
use Rattle.layout.specs.declared.Region.{Region}
use Rattle.layout.specs.Regions.{as_entry, region_of}
use Rattle.tables.specs.Answers.{as_place, as_span}
use Rattle.view.specs.Answers.{found_as}
use Rattle.view.proofs.AnswersLaw.{found_some, found_none}
use Rattle.scan.specs.declared.runs.ProtectedRun.{ProtectedRun}
use Rattle.scan.specs.Runs.{visits_at, first_run, codewords_of, IsRunOf, IsRun}

-- ---- a protected region

-- pl is the place of the plane of r's kind
pub no_plane_lem : (n : ℕ) (x : List ℕ) (r : Region) (pl : Option Place) → as_place pl ≡ ecc_for n x r.kind → pl ≡ None
    → plane_of (length x) (entries_for n x) (as_entry r) ≡ None
unfolding plane_of ecc_for
no_plane_lem n x r pl e f =
    plane-law.no_place (length x) (as_entry r) (first_that (plane_for r.kind) (entries_for n x)) (ap as_place (sym f) ∙ e)

-- and sp r's own span
module _ (n : ℕ) (x : List ℕ) (r : Region) (pl : Option Place) (sp : Result Place Refusal) (ep : as_place pl ≡ ecc_for n x r.kind) (es : as_span sp ≡ bytes_span (length x) (as_entry r)) where
  pub past_end : (s : Refusal) → sp ≡ Err s → plane_of (length x) (entries_for n x) (as_entry r) ≡ None
  unfolding plane_of
  past_end s f =
      plane-law.region_outside (length x) (as_entry r) (first_that (plane_for r.kind) (entries_for n x))
      (plane-law.outside (length x) (as_entry r) _ _ (ap as_span (sym f) ∙ es))

  module _ (q s : Place) (fp : pl ≡ Some q) (fs : sp ≡ Ok s) where
    plane : plane-law.Plane (length x) (as_entry r) (first_that (plane_for r.kind) (entries_for n x)) q.start q.end
    unfolding ecc_for
    plane =
        plane-law.place_of (length x) (as_entry r) (first_that (plane_for r.kind) (entries_for n x)) q.start q.end
        (plane-law.inside (length x) (as_entry r) s.start s.end (ap as_span (sym fs) ∙ es)).0 (ap as_place (sym fp) ∙ ep)

    ends : 8 * (r.word_offset + r.word_length) ≤ length x
    ends = (plane-law.inside (length x) (as_entry r) s.start s.end (ap as_span (sym fs) ∙ es)).0

    pub ordered : q.start ≤ q.end
    ordered = let p = plane in omega (arith, p.first, p.past)

    is_plane_lem : plane_of (length x) (entries_for n x) (as_entry r) ≡ Some plane.plane
    unfolding plane_of
    is_plane_lem = plane.is

    same_codewords_from : codewords_from (min r.word_length (q.end - q.start)) r.word_offset q.start ≡ words_of (record { region = as_entry r; plane = plane.plane })
    unfolding words_of
    same_codewords_from =
        let p = plane in
        let w : q.end - q.start ≡ 8 * p.plane.words = omega (arith, p.first, p.past) in
        ap₂ (λ (m k : ℕ). codewords_from (min r.word_length m) r.word_offset k) w p.first

    -- as many words as region and plane both have
    pub the_run : (m : ℕ) → m ≡ min r.word_length (q.end - q.start) → r.word_length < 2 ^ 32
        → IsRunOf x (visit_with (as_entry r) (plane_of (length x) (entries_for n x) (as_entry r))) (record { word = r.word_offset; check = q.start; words = m })
    the_run m e l =
        let p = plane in
        let g : m ≤ r.word_length = omega (arith, min-le_left r.word_length (q.end - q.start)) in
        let h : m ≤ q.end - q.start = omega (arith, min-le_right r.word_length (q.end - q.start)) in
        let vs : visit_with (as_entry r) (plane_of (length x) (entries_for n x) (as_entry r)) ≡ visit_with (as_entry r) (Some p.plane) = ap (visit_with (as_entry r)) is_plane_lem in
        let w : q.end - q.start ≡ 8 * p.plane.words = omega (arith, p.first, p.past) in
        record {
          is = ap₂ (λ (i j : ℕ). Some (record { word = r.word_offset; check = i; words = j })) p.first (e ∙ ap (min r.word_length) w) ∙ sym (ap first_run vs);
          codewords = ap (λ (k : ℕ). codewords_from k r.word_offset q.start) e ∙ same_codewords_from ∙ sym (ap codewords_in vs ∙ codewords_one (record { region = as_entry r; plane = p.plane }));
          visits = ap any_of vs;
          fits = record { words = omega (arith, ends); checks = omega (arith, p.first, p.past, p.fits) };
          few = omega arith;
        }

-- the same words, mark and run
abbrev Same : List Visit → List Visit → Type 0
Same vs ws = (codewords_in vs ≡ codewords_in ws) × (any_of vs ≡ any_of ws) × (first_run vs ≡ first_run ws)

none_there : (vs : List Visit) → first_run vs ≡ None → vs ≡ []
none_there [] e = refl
none_there (v ∷ vs) e = cc

-- the reserved field is not read
same_visit : (len : ℕ) (all : List Entry) (e : Entry) → Same (visit_of len all (as_entry (region_of e))) (visit_of len all e)
unfolding visit_of is_protected plane_of codewords_in words_of
same_visit len all e = go (is_protected e) (first_that (plane_for e.kind) all)
  where
    within : (t : Bool) (p : Entry) → Same (visit_with (as_entry (region_of e)) (given t p)) (visit_with e (given t p))
    within true p = (refl, refl, refl)
    within false p = (refl, refl, refl)

    go : (t : Bool) (o : Option Entry) → Same (cond t (visit_with (as_entry (region_of e)) (plane_within len (as_entry (region_of e)) o)) []) (cond t (visit_with e (plane_within len e o)) [])
    go false o = (refl, refl, refl)
    go true None = (refl, refl, refl)
    go true (Some p) = within (leb (end e) len && leb (end p) len) p

-- ---- a region that is handed out for entry i

module _ (n : ℕ) (x : List ℕ) (i : ℕ) (r : Option Region) (f : r ≡ found_as (region_at n x i)) where
  pub not_there : r ≡ None → visits_at n x i ≡ []
  not_there g = ap (visit_at (length x) (entries_for n x)) (found_none (region_at n x i) (sym g ∙ f))

  module _ (p : Region) (g : r ≡ Some p) where
    same_there : Same (visit_of (length x) (entries_for n x) (as_entry p)) (visits_at n x i)
    same_there =
        let e = found_some (region_at n x i) p (sym g ∙ f) in
        let s = same_visit (length x) (entries_for n x) e.0 in
        let vs : visit_of (length x) (entries_for n x) (as_entry p) ≡ visit_of (length x) (entries_for n x) (as_entry (region_of e.0)) = ap (λ (z : Region). visit_of (length x) (entries_for n x) (as_entry z)) e.2 in
        let there : visits_at n x i ≡ visit_of (length x) (entries_for n x) e.0 = ap (visit_at (length x) (entries_for n x)) e.1 in
        (ap codewords_in vs ∙ s.0 ∙ sym (ap codewords_in there), ap any_of vs ∙ s.1 ∙ sym (ap any_of there), ap first_run vs ∙ s.2 ∙ sym (ap first_run there))

    at_region : (o : Option ProtectedRun) → IsRun x (visit_of (length x) (entries_for n x) (as_entry p)) o → IsRun x (visits_at n x i) o
    at_region None k = none_there (visits_at n x i) (sym same_there.2 ∙ ap first_run k)
    at_region (Some q) k =
        let s = same_there in
        record { is = k.is ∙ s.2; codewords = k.codewords ∙ s.0; visits = sym s.1 ∙ k.visits; fits = k.fits; few = k.few }

    pub unprotected : (t : Bool) → t ≡ is_protected (as_entry p) → t ≡ false → visits_at n x i ≡ []
    unprotected t e h = at_region None (visit_plain (length x) (entries_for n x) (as_entry p) (sym e ∙ h))

    pub protected : (t : Bool) → t ≡ is_protected (as_entry p) → t ≡ true
        → (o : Option ProtectedRun) → IsRun x (visit_with (as_entry p) (plane_of (length x) (entries_for n x) (as_entry p))) o → IsRun x (visits_at n x i) o
    protected t e h o k =
        at_region o
        (subst (λ (vs : List Visit). IsRun x vs o) (sym (visit_protected (length x) (entries_for n x) (as_entry p) (sym e ∙ h))) k)

-- ---- the words of a run: how many

length_from : (m q c : ℕ) → length (codewords_from m q c) ≡ m
unfolding codewords_from
length_from zero q c = refl
length_from (suc m) q c = ap suc (length_from m (suc q) (suc c))

pub run_length : (r : ProtectedRun) → length (codewords_of r) ≡ r.words
run_length r = length_from r.words r.word r.check

pub run_words : (x : List ℕ) (r : ProtectedRun) → (report (classes_at x (codewords_of r))).words ≡ r.words
unfolding report
run_words x r = length_classes x (codewords_of r) ∙ run_length r
