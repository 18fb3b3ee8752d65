-- Mend's refusals: parse's, and then 12 exactly if the image isn't laid apart. Assumes nothing.
use mathlib.Core.Path.{◌≡◌, refl, sym, ap, ◌∙◌, subst}
use mathlib.Core.Bool.{Bool, true, false, not}
use mathlib.Core.List.{List, [], ◌∷◌}
use Prim.Native.Nat.{ℕ, suc, ◌<◌}
use native.Mathlib.Omega.{arith}
use lib.Dec.{eqb, ltb, lit<}
use lib.ListN.{length, take}
use Rattle.model.specs.Refusals.{Verdict, fine, refuse, ◌then◌, refuse_if, overlapping_regions}
use Rattle.model.specs.Crc.{crc32}
use Rattle.model.specs.Layout.{prologue, magic_in, marker_in, version_in, count_in, checksum_in, count, header_length, directory, Entry, end}
use Rattle.model.specs.Parse.{prologue_verdict, among, entries_verdict, header_verdict, parse_verdict, Header, header_of, accepted, refused, parsed_as, parse}
use Rattle.model.specs.Scan.{scan}
use Rattle.lemmas.proofs.ApartVerdict.{apart_verdict, mend_verdict_lem}
use Rattle.model.specs.Mend.{LaidApart, FirstMisplaced, mend_bytes, changed, whole, mended, refused_mend, mend_as, mend}
use Rattle.lemmas.proofs.MisplacedLaw.{placed, accepts_apart, names_first}

-- ---- parse has no number from 12 on

abbrev Below : Verdict → Type 0
Below fine = Unit {0}
Below (refuse k d) = k < overlapping_regions

record Low (v : Verdict) : Type 0 where
  low : Below v

then_low : {u v : Verdict} → Low u → Low v → Low (u then v)
then_low {u} {v} a b = record { low = go u a.low }
  where
    go : (u : Verdict) → Below u → Below (u then v)
    go fine l = b.low
    go (refuse k d) l = l

if_low : (t : Bool) (k d : ℕ) → k < overlapping_regions → Low (refuse_if t k d)
if_low true k d l = record { low = l }
if_low false k d l = record { low = tt }

entries_low : (len i : ℕ) (es : List Entry) → Low (entries_verdict len i es)
unfolding entries_verdict
entries_low len i [] = record { low = tt }
entries_low len i (e ∷ es) =
    then_low (if_low (ltb len (end e)) 7 i (lit< tt))
    (then_low (if_low (among e.kind es) 8 e.kind (lit< tt)) (entries_low len (suc i) es))

prologue_low : (p : List ℕ) → Low (prologue_verdict p)
unfolding prologue_verdict
prologue_low p =
    then_low (if_low (not (eqb (magic_in p) 0x4B415558)) 2 0 (lit< tt))
    (then_low (if_low (not (eqb (marker_in p) 0xFEFF)) 3 0 (lit< tt))
    (then_low (if_low (not (eqb (version_in p) 2)) 4 (version_in p) (lit< tt))
    (then_low (if_low (not (eqb (checksum_in p) (crc32 (take 12 p)))) 5 0 (lit< tt)) (if_low (ltb 1024 (count_in p)) 6 (count_in p) (lit< tt)))))

parse_low : (x : List ℕ) → Low (parse_verdict x)
unfolding parse_verdict header_verdict
parse_low x =
    then_low (if_low (ltb (length x) 48) 1 0 (lit< tt))
    (then_low (prologue_low (prologue x))
    (then_low (if_low (ltb (length x) (header_length (count_in (prologue x)))) 1 0 (lit< tt)) (entries_low (length x) 0 (directory x))))

-- ---- what parse says, and its verdict

fine_if_accepted : (v : Verdict) (h k : Header) → parsed_as v h ≡ accepted k → v ≡ fine
fine_if_accepted fine h k e = refl
fine_if_accepted (refuse n d) h k e = absurd (let z : ◌≡◌ {A = ℕ} 0 1 = cc in omega arith)

refused_if : (v : Verdict) (h : Header) (n d : ℕ) → parsed_as v h ≡ refused n d → v ≡ refuse n d
refused_if fine h n d e = absurd (let z : ◌≡◌ {A = ℕ} 0 1 = cc in omega arith)
refused_if (refuse m c) h n d e = let a : m ≡ n = cc in let b : c ≡ d = cc in rw (a, b) refl

module _ (x : List ℕ) where
  abbrev Apart : Type 0
  Apart = LaidApart (count x) (directory x)

  -- by the two verdicts, in mend's order
  mend_by : (u v : Verdict) → parse_verdict x ≡ u → apart_verdict (count x) 0 [] (directory x) ≡ v → mend x ≡ mend_as (u then v) x (mend_bytes x) (scan x)
  unfolding mend
  mend_by u v a b = rw (mend_verdict_lem x, a, b) refl

  parsed : (k : Header) → parse x ≡ accepted k → parse_verdict x ≡ fine
  unfolding parse
  parsed k e = fine_if_accepted (parse_verdict x) (header_of x) k e

  accepts : parse_verdict x ≡ fine → parse x ≡ accepted (header_of x)
  unfolding parse
  accepts e = rw e refl

  pub as_parse : (n d : ℕ) → parse x ≡ refused n d → mend x ≡ refused_mend n d
  unfolding parse
  as_parse n d e = mend_by (refuse n d) (apart_verdict (count x) 0 [] (directory x)) (refused_if (parse_verdict x) (header_of x) n d e) refl

  pub only_overlap : (i : ℕ) → mend x ≡ refused_mend overlapping_regions i
      → (parse x ≡ accepted (header_of x)) × (Apart → ⊥) × FirstMisplaced (count x) (directory x) i
  only_overlap i e = go (parse_verdict x) (apart_verdict (count x) 0 [] (directory x)) refl refl (parse_low x).low
    where
      go : (u v : Verdict) → parse_verdict x ≡ u → apart_verdict (count x) 0 [] (directory x) ≡ v → Below u
          → (parse x ≡ accepted (header_of x)) × (Apart → ⊥) × FirstMisplaced (count x) (directory x) i
      go fine fine a b l = let m = sym e ∙ mend_by fine fine a b in absurd (let z : ◌≡◌ {A = ℕ} 0 1 = cc in omega arith)
      go fine (refuse k d) a b l =
          let m = sym e ∙ mend_by fine (refuse k d) a b in
          let c : i ≡ d = cc in
          let f = (names_first (count x) (directory x) k d b).1 in
          (accepts a, λ r. placed (count x) (directory x) r d f.here, subst (FirstMisplaced (count x) (directory x)) (sym c) f)
      go (refuse k d) v a b l =
          let m = sym e ∙ mend_by (refuse k d) v a b in
          let c : overlapping_regions ≡ k = cc in
          absurd (omega arith)

  pub overlap_always : parse x ≡ accepted (header_of x) → (Apart → ⊥) → (i : ℕ) × (mend x ≡ refused_mend overlapping_regions i)
  overlap_always p n = go (apart_verdict (count x) 0 [] (directory x)) refl
    where
      go : (v : Verdict) → apart_verdict (count x) 0 [] (directory x) ≡ v → (i : ℕ) × (mend x ≡ refused_mend overlapping_regions i)
      go fine b = absurd (n (accepts_apart (count x) (directory x) b))
      go (refuse k d) b =
          (d, mend_by fine (refuse k d) (parsed (header_of x) p) b ∙ ap (λ (m : ℕ). refused_mend m d) (names_first (count x) (directory x) k d b).0)

  pub else_mends : parse x ≡ accepted (header_of x) → Apart → mend x ≡ mended (mend_bytes x) (scan x) (changed x (mend_bytes x)) (whole x)
  else_mends p r = go (apart_verdict (count x) 0 [] (directory x)) refl
    where
      go : (v : Verdict) → apart_verdict (count x) 0 [] (directory x) ≡ v → mend x ≡ mended (mend_bytes x) (scan x) (changed x (mend_bytes x)) (whole x)
      go fine b = mend_by fine fine (parsed (header_of x) p) b
      go (refuse k d) b = absurd (placed (count x) (directory x) r d (names_first (count x) (directory x) k d b).1.here)
