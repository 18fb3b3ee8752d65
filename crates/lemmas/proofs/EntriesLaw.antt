-- Entries that parse accepts: each ends inside the image, no two have a kind, and a region's plane is the first plane that covers its kind. Assumes nothing.
use mathlib.Core.Path.{◌≡◌, refl, sym, ap, ◌∙◌, subst}
use mathlib.Core.Bool.{Bool, true, false, ◌&&◌, cond}
use mathlib.Core.List.{List, [], ◌∷◌, ◌++◌}
use Rattle.std.specs.Prelude.{Option, None, Some}
use Prim.Native.Nat.{ℕ, suc, ◌≤◌}
use native.Mathlib.Omega.{arith}
use borrow.Author.Tests.{ltb-false, le-ltb, le-leb, eqb-true, eqb-false}
use lib.Dec.{eqb, ltb, leb}
use lib.ListN.{length}
use Rattle.model.specs.Bytes.{given}
use Rattle.model.specs.Refusals.{fine, ◌then◌, refuse_if}
use Rattle.model.specs.Layout.{Entry, is_plane, end, header_length, count, directory}
use Rattle.model.specs.Parse.{among, entries_verdict, parse_verdict}
use Rattle.model.specs.Views.{first_that, plane_for}
use Rattle.model.specs.Scan.{plane_of, plane_within}
use Rattle.model.proofs.ParseLaw.{accepted_long, accepted_entries}
use Rattle.lemmas.proofs.VerdictLaw.{passed, passes, or_left, or_right, or_none}

-- ---- membership

pub data In (e : Entry) : List Entry → Type 0 where
  now : {f : Entry} {fs : List Entry} → e ≡ f → In e (f ∷ fs)
  next : {f : Entry} {fs : List Entry} → In e fs → In e (f ∷ fs)

pub in_left : {e : Entry} (es fs : List Entry) → In e es → In e (es ++ fs)
in_left [] fs m = elim m [ ]
in_left (f ∷ es) fs (now p) = now p
in_left (f ∷ es) fs (next m) = next (in_left es fs m)

-- ---- what parse's check of the entries says

pub data EntriesOK (len : ℕ) : List Entry → Type 0 where
  nil : EntriesOK len []
  cons : {e : Entry} {es : List Entry} → end e ≤ len → among e.kind es ≡ false → EntriesOK len es → EntriesOK len (e ∷ es)

pub entries_ok : (len i : ℕ) (es : List Entry) → entries_verdict len i es ≡ fine → EntriesOK len es
unfolding entries_verdict
entries_ok len i [] h = nil
entries_ok len i (e ∷ es) h =
    let a = passed (ltb len (end e)) 7 i (refuse_if (among e.kind es) 8 e.kind then entries_verdict len (suc i) es) h in
    let b = passed (among e.kind es) 8 e.kind (entries_verdict len (suc i) es) a.1 in
    cons (ltb-false len (end e) a.0) b.0 (entries_ok len (suc i) es b.1)

pub entries_fine : (len i : ℕ) (es : List Entry) → EntriesOK len es → entries_verdict len i es ≡ fine
unfolding entries_verdict
entries_fine len i es nil = refl
entries_fine len i es (cons {e = e} {es = fs} h n r) =
    passes (ltb len (end e)) 7 i (refuse_if (among e.kind fs) 8 e.kind then entries_verdict len (suc i) fs) (le-ltb len (end e) h)
    (passes (among e.kind fs) 8 e.kind (entries_verdict len (suc i) fs) n (entries_fine len (suc i) fs r))

pub ends : (len : ℕ) {es : List Entry} → EntriesOK len es → (e : Entry) → In e es → end e ≤ len
ends len nil e m = elim m [ ]
ends len (cons h n r) e (now p) = subst (λ (m : ℕ). m ≤ len) (sym (ap (λ (z : Entry). end z) p)) h
ends len (cons h n r) e (next m) = ends len r e m

pub other_kind : (k : ℕ) (es : List Entry) → among k es ≡ false → (e : Entry) → In e es → e.kind ≡ k → ⊥
unfolding among
other_kind k [] h e m g = elim m [ ]
other_kind k (f ∷ es) h e (now p) g = eqb-false f.kind k (or_left (eqb f.kind k) (among k es) h) (sym (ap (λ (z : Entry). z.kind) p) ∙ g)
other_kind k (f ∷ es) h e (next m) g = other_kind k es (or_right (eqb f.kind k) (among k es) h) e m g

pub among_append : (k : ℕ) (es fs : List Entry) → among k es ≡ false → among k fs ≡ false → among k (es ++ fs) ≡ false
unfolding among
among_append k [] fs h g = g
among_append k (e ∷ es) fs h g =
    or_none (eqb e.kind k) (among k (es ++ fs)) (or_left (eqb e.kind k) (among k es) h)
    (among_append k es fs (or_right (eqb e.kind k) (among k es) h) g)

-- ---- an image that parses

pub record Accepted (x : List ℕ) : Type 0 where
  pub long : header_length (count x) ≤ length x
  pub entries : EntriesOK (length x) (directory x)

pub accepted_image : (x : List ℕ) → parse_verdict x ≡ fine → Accepted x
accepted_image x h = record { long = accepted_long x h; entries = entries_ok (length x) 0 (directory x) (accepted_entries x h) }

-- ---- the plane found

pub record Plane (k : ℕ) (all : List Entry) (p : Entry) : Type 0 where
  pub there : In p all
  pub plane : is_plane p.flags ≡ true
  pub covers : p.covers ≡ k

first_plane : (k : ℕ) (all : List Entry) (p : Entry) → first_that (plane_for k) all ≡ Some p → Plane k all p
unfolding first_that
first_plane k [] p h = let z : ◌≡◌ {A = ℕ} 0 1 = cc in absurd (omega arith)
first_plane k (e ∷ es) p h = go (λ g. first_plane k es p g) (is_plane e.flags) refl (eqb e.covers k) refl h
  where
    same : ◌≡◌ {A = Option Entry} (Some e) (Some p) → p ≡ e
    same g = cc

    move : Plane k es p → Plane k (e ∷ es) p
    move r = record { there = next r.there; plane = r.plane; covers = r.covers }

    go : (first_that (plane_for k) es ≡ Some p → Plane k es p) → (t : Bool) → is_plane e.flags ≡ t → (u : Bool) → eqb e.covers k ≡ u
        → cond (t && u) (Some e) (first_that (plane_for k) es) ≡ Some p → Plane k (e ∷ es) p
    go f true a true b g =
        record {
          there = now (same g);
          plane = ap (λ (z : Entry). is_plane z.flags) (same g) ∙ a;
          covers = ap (λ (z : Entry). z.covers) (same g) ∙ eqb-true e.covers k b;
        }
    go f true a false b g = move (f g)
    go f false a u b g = move (f g)

pub found_plane : (len : ℕ) (all : List Entry) (e p : Entry) → plane_of len all e ≡ Some p → Plane e.kind all p
unfolding plane_of
found_plane len all e p h = go (first_that (plane_for e.kind) all) refl h
  where
    go : (m : Option Entry) → first_that (plane_for e.kind) all ≡ m → plane_within len e m ≡ Some p → Plane e.kind all p
    go None g i = let z : ◌≡◌ {A = ℕ} 0 1 = cc in absurd (omega arith)
    go (Some r) g i = within (leb (end e) len && leb (end r) len) i
      where
        within : (t : Bool) → given t r ≡ Some p → Plane e.kind all p
        within true k = let s : r ≡ p = cc in first_plane e.kind all p (g ∙ ap Some s)
        within false k = let z : ◌≡◌ {A = ℕ} 0 1 = cc in absurd (omega arith)

-- of entries that all end inside, the plane of one is plainly the first that covers its kind
pub plane_plain : (len : ℕ) (all : List Entry) → EntriesOK len all → (e : Entry) → In e all → plane_of len all e ≡ first_that (plane_for e.kind) all
unfolding plane_of
plane_plain len all ok e m = go (first_that (plane_for e.kind) all) refl
  where
    go : (r : Option Entry) → first_that (plane_for e.kind) all ≡ r → plane_within len e r ≡ r
    go None g = refl
    go (Some p) g =
        rw (le-leb (end e) len (ends len ok e m), le-leb (end p) len (ends len ok p (first_plane e.kind all p g).there))
