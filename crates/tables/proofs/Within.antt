-- A part that is found lies within the bytes. Assumes nothing.
use mathlib.Core.Path.{◌≡◌, refl, sym, ap, subst}
use mathlib.Core.Bool.{Bool, true, false, not, ◌&&◌}
use Rattle.std.specs.Prelude.{Some}
use Prim.Native.Nat.{ℕ, suc, ◌+◌, ◌*◌, ◌/◌, ◌%◌, ◌≤◌, ◌<◌}
use native.Mathlib.Nat.{suc-mul, le-div_iff_mul-le}
use native.Mathlib.Decide.{dec_le}
use native.Mathlib.Omega.{arith}
use borrow.Author.Tests.{ltb-false, leb-true}
use lib.Dec.{eqb, ltb, leb}
use Rattle.model.specs.Bytes.{given}
use Rattle.model.specs.Refusals.{Verdict, fine, refuse, ◌then◌, refuse_if}
use Rattle.model.specs.Layout.{Entry, start, end}
use Rattle.model.specs.Views.{Range, range, span, span_as, bounds_verdict, bytes_span, bad_stride, table_verdict, table_span, record_range, pool_range}
use Rattle.model.proofs.ParseLaw.{then_first, then_rest, not_refused}

-- a place within len bytes
abbrev pub Within : ℕ → ℕ → ℕ → Type 0
Within len s t = (s ≤ t) × (t ≤ len)

-- ---- a region's

span_fine : (v : Verdict) (a b s t : ℕ) → span (range s t) ≡ span_as v (range a b) → v ≡ fine
span_fine fine a b s t e = refl
span_fine (refuse n d) a b s t e = cc

span_same : (v : Verdict) (a b s t : ℕ) → span (range s t) ≡ span_as v (range a b) → range s t ≡ range a b
span_same fine a b s t e = cc
span_same (refuse n d) a b s t e = cc

module _ (len : ℕ) (e : Entry) (v : Verdict) (s t : ℕ) (f : span (range s t) ≡ span_as v (range (start e) (end e))) where
  spanned : (v ≡ fine → bounds_verdict len e ≡ fine) → Within len s t
  spanned g =
      let r = span_same v (start e) (end e) s t f in
      let es : s ≡ start e = ap (λ (x : Range). x.first) r in
      let et : t ≡ end e = ap (λ (x : Range). x.past) r in
      let h : end e ≤ len = ltb-false len (end e) (not_refused (ltb len (end e)) 7 0 (g (span_fine v (start e) (end e) s t f))) in
      (omega arith, omega arith)

pub bytes_within : (len : ℕ) (e : Entry) (s t : ℕ) → span (range s t) ≡ bytes_span len e → Within len s t
unfolding bytes_span
bytes_within len e s t f = spanned len e (bounds_verdict len e) s t f (λ h. h)

pub table_within : (len : ℕ) (e : Entry) (stride s t : ℕ) → span (range s t) ≡ table_span len e stride → Within len s t
unfolding table_span
table_within len e stride s t f = spanned len e (table_verdict len e stride) s t f bounds
  where
    bounds : table_verdict len e stride ≡ fine → bounds_verdict len e ≡ fine
    bounds h =
        let r = refuse_if (not (eqb (8 * e.words % stride) 0)) 9 0 in
        then_first (bounds_verdict len e) r (then_rest (refuse_if (bad_stride stride) 9 0) (bounds_verdict len e then r) (unfold table_verdict in h))

-- ---- a record's, a pool's

given_true : (t : Bool) (a b : Range) → Some a ≡ given t b → t ≡ true
given_true true a b e = refl
given_true false a b e = cc

given_same : (t : Bool) (a b : Range) → Some a ≡ given t b → a ≡ b
given_same true a b e = cc
given_same false a b e = cc

and_right : (a b : Bool) → a && b ≡ true → b ≡ true
and_right true b e = e
and_right false b e = cc

place_within_lem : (len a b : ℕ) (t : Bool) (s z : ℕ) → Some (range s z) ≡ given t (range a b) → (t ≡ true → b ≤ len) → a ≤ b → Within len s z
place_within_lem len a b t s z e f g =
    let r = given_same t (range s z) (range a b) e in
    let es : s ≡ a = ap (λ (x : Range). x.first) r in
    let ez : z ≡ b = ap (λ (x : Range). x.past) r in
    let h : b ≤ len = f (given_true t (range s z) (range a b) e) in
    (omega arith, omega arith)

pub record_within : (len stride i s t : ℕ) → Some (range s t) ≡ record_range len stride i → Within len s t
unfolding record_range
record_within len stride i s t e =
    place_within_lem len (i * stride) (i * stride + stride) (ltb 0 stride && leb (i * stride + stride) len) s t e
    (λ h. leb-true (i * stride + stride) len (and_right (ltb 0 stride) (leb (i * stride + stride) len) h)) (omega arith)

pub pool_within : (len offset size s t : ℕ) → Some (range s t) ≡ pool_range len offset size → Within len s t
unfolding pool_range
pool_within len offset size s t e =
    place_within_lem len offset (offset + size) (leb (offset + size) len) s t e (λ h. leb-true (offset + size) len h) (omega arith)

-- ---- record i is there exactly if i is below the count of whole records

pub fits_in : (n s i : ℕ) → 0 < s → i < n / s → i * s + s ≤ n
fits_in n s i pos l = subst (λ (k : ℕ). k ≤ n) (suc-mul i s) ((le-div_iff_mul-le pos).0 l)

pub fits_not : (n s i : ℕ) → 0 < s → n / s ≤ i → n < i * s + s
fits_not n s i pos l = go (dec_le (i * s + s) n)
  where
    go : Dec (i * s + s ≤ n) → n < i * s + s
    go (yes h) = let k : suc i ≤ n / s = (le-div_iff_mul-le pos).1 (subst (λ (k : ℕ). k ≤ n) (sym (suc-mul i s)) h) in absurd (omega arith)
    go (no h) = omega arith
