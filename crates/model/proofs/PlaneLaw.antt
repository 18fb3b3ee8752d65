-- A region's plane, as its place in the bytes and the region's own bounds tell. Assumes nothing.
use mathlib.Core.Path.{◌≡◌, refl, ap}
use mathlib.Core.Bool.{Bool, true, false, ◌&&◌}
use Rattle.std.specs.Prelude.{Option, None, Some}
use Prim.Native.Nat.{ℕ, ◌≤◌, ◌<◌}
use native.Mathlib.Decide.{dec_lt}
use native.Mathlib.Omega.{arith}
use borrow.Author.Tests.{le-ltb, ltb-false, le-leb, lt-leb, leb-true}
use lib.Dec.{ltb, leb}
use Rattle.model.specs.Bytes.{given}
use Rattle.model.specs.Refusals.{refuse_if}
use Rattle.model.specs.Layout.{Entry, start, end}
use Rattle.model.specs.Views.{Range, range, place_within, span, no_span, span_as, bytes_span}
use Rattle.model.specs.Scan.{plane_within}

-- ---- a region's bounds

span_inside : (len : ℕ) (e : Entry) (t : Bool) → ltb len (end e) ≡ t → (a b : ℕ) → span (range a b) ≡ span_as (refuse_if t 7 0) (range (start e) (end e))
    → (end e ≤ len) × (a ≡ start e) × (b ≡ end e)
span_inside len e true h a b f = let z : ◌≡◌ {A = ℕ} 0 1 = cc in absurd (omega arith)
span_inside len e false h a b f =
    (ltb-false len (end e) h, ap (λ (r : Range). r.first) (same f), ap (λ (r : Range). r.past) (same f))
  where
    same : span (range a b) ≡ span (range (start e) (end e)) → range a b ≡ range (start e) (end e)
    same g = cc

pub inside : (len : ℕ) (e : Entry) (a b : ℕ) → span (range a b) ≡ bytes_span len e → (end e ≤ len) × (a ≡ start e) × (b ≡ end e)
unfolding bytes_span
inside len e a b f = span_inside len e (ltb len (end e)) refl a b f

pub outside : (len : ℕ) (e : Entry) (n d : ℕ) → no_span n d ≡ bytes_span len e → len < end e
unfolding bytes_span
outside len e n d f = go (dec_lt len (end e))
  where
    go : Dec (len < end e) → len < end e
    go (yes h) = h
    go (no h) =
        let g : span_as (refuse_if (ltb len (end e)) 7 0) (range (start e) (end e)) ≡ span (range (start e) (end e)) = rw (le-ltb len (end e) (omega arith)) in
        let z : ◌≡◌ {A = ℕ} 0 1 = cc in absurd (omega arith)

-- ---- the plane's place

pub no_place : (len : ℕ) (e : Entry) (o : Option Entry) → None ≡ place_within len o → plane_within len e o ≡ None
no_place len e None f = refl
no_place len e (Some p) f = out (leb (end p) len) (leb (end e) len) f
  where
    out : (t s : Bool) → None ≡ given t (range (start p) (end p)) → given (s && t) p ≡ None
    out true s g = cc
    out false true g = refl
    out false false g = refl

pub record Plane (len : ℕ) (e : Entry) (o : Option Entry) (a b : ℕ) : Type 0 where
  pub plane : Entry
  pub is : plane_within len e o ≡ Some plane
  pub first : a ≡ start plane
  pub past : b ≡ end plane
  pub fits : end plane ≤ len

pub place_of : (len : ℕ) (e : Entry) (o : Option Entry) (a b : ℕ) → end e ≤ len → Some (range a b) ≡ place_within len o → Plane len e o a b
place_of len e None a b h f = let z : ◌≡◌ {A = ℕ} 0 1 = cc in absurd (omega arith)
place_of len e (Some p) a b h f = go (leb (end p) len) refl f
  where
    go : (t : Bool) → leb (end p) len ≡ t → Some (range a b) ≡ given t (range (start p) (end p)) → Plane len e (Some p) a b
    go true g k =
        let r : range a b ≡ range (start p) (end p) = cc in
        record {
          plane = p;
          is = rw (le-leb (end e) len h, g);
          first = ap (λ (r : Range). r.first) r;
          past = ap (λ (r : Range). r.past) r;
          fits = leb-true (end p) len g;
        }
    go false g k = let z : ◌≡◌ {A = ℕ} 0 1 = cc in absurd (omega arith)

pub region_outside : (len : ℕ) (e : Entry) (o : Option Entry) → len < end e → plane_within len e o ≡ None
region_outside len e None h = refl
region_outside len e (Some p) h = rw (lt-leb (end e) len h)
