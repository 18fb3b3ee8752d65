-- The word half, region by region, and mend's answer. Assumes nothing.
use mathlib.Core.Path.{◌≡◌, refl, sym, ap, ap₂, ◌∙◌, subst}
use mathlib.Core.Bool.{Bool, true, cond}
use mathlib.Core.List.{List, [], ◌∷◌, ◌++◌}
use Prim.Native.Nat.{ℕ, suc, ◌+◌, ◌*◌, ◌≤◌}
use native.Mathlib.Omega.{arith}
use borrow.Author.Tests.{le-ltb}
use lib.ListN.{length, take, drop, take-append-drop}
use lib.Seq.{take_all}
use Rattle.model.specs.Bytes.{Bytes, given}
use Rattle.model.specs.Refusals.{fine, refuse}
use Rattle.model.specs.Layout.{Entry, count, header_length, directory, directory_of}
use Rattle.model.specs.Views.{nth, entries_for, region_at}
use Rattle.model.specs.Scan.{Visit, visits_over, visits, Codeword, Among, codewords_in, codewords, total, is_corrected, classes_at, Report, report, scan_of, scan}
use Rattle.model.specs.Scrub.{visit_at}
use Rattle.model.specs.Mend as model
use Rattle.model.specs.Mend.{mend_verdict, fix_all, mend_bytes, changed, mend}
use Rattle.model.proofs.LayoutLaw.{length_directory_of}
use Rattle.model.specs.Steps.{any_of}
use Rattle.model.proofs.ScanLaw.{codewords_append, scan_all, visits_append, visits_to}
use Rattle.lemmas.specs.Steps.{mend_header, mend_words}
use Rattle.lemmas.proofs.HeaderLaw.{SameHeader, header_kept, same_directory, same_visits}
use Rattle.lemmas.proofs.HeaderHalf.{header_keeps, header_verdict_lem, header_size, header_then_words, header_codewords, header_word, header_check}
use Rattle.lemmas.proofs.CodewordLaw.{among_left, classes_ext}
use Rattle.lemmas.proofs.Fold.{AllApart, nil, cons, all_length, all_other, fix_all_append}
use Rattle.lemmas.proofs.Apart.{accepted, apart, past}
use Rattle.lemmas.proofs.StoredLaw.{stored_count}
use Rattle.mending.proofs.VoteLaw.{header_part}
use Rattle.std.specs.Prelude.{Option, None}
use Rattle.scan.specs.Tally.{reported, together, or_zeros, Bounded}
use Rattle.scan.proofs.TallyLaw.{together_reported, bounded_given}
use Rattle.correcting.proofs.CorrectLaw.{none_there, none_met}
use Rattle.mending.proofs.MetLaw.{met_append, met_apart}
use Rattle.correcting.specs.Correct.{met}
use Rattle.scan.specs.Runs.{visits_at}

-- ---- the entries before i are done

apart_left : {len : ℕ} (xs ys : List Codeword) → AllApart len (xs ++ ys) → AllApart len xs
apart_left [] ys a = nil
apart_left (p ∷ xs) ys (cons s f r) = cons s (λ q c m. f q c (among_left xs ys m)) (apart_left xs ys r)

length_directory : (x : List ℕ) → length (directory x) ≤ count x
unfolding directory
length_directory x = omega (arith, length_directory_of (count x) x)

abbrev first_visits : List ℕ → ℕ → List Visit
first_visits x i = visits_over (length x) (directory x) (take i (directory x))

all_visits : (x : List ℕ) (i : ℕ) → count x ≤ i → first_visits x i ≡ visits x
unfolding visits
all_visits x i h = ap (visits_over (length x) (directory x)) (take_all i (directory x) (omega (arith, length_directory x)))

unfoldable pub fixed_to : List ℕ → ℕ → List ℕ
fixed_to x i = fix_all (codewords_in (first_visits x i)) x

-- what is counted by then
unfoldable pub reported_to : List ℕ → ℕ → Option Report
reported_to x i = reported (first_visits x i) (met true x (codewords_in (first_visits x i)))

pub none_fixed : (x : List ℕ) → fixed_to x 0 ≡ x
unfolding fixed_to fix_all visits_over codewords_in
none_fixed x = refl

pub none_reported : (x : List ℕ) → reported_to x 0 ≡ None
unfolding reported_to visits_over
none_reported x = refl

pub reported_bounded : (x : List ℕ) (i : ℕ) → Bounded (or_zeros (reported_to x i))
unfolding reported_to
reported_bounded x i = bounded_given _ (met true x (codewords_in (first_visits x i)))

module _ (x : List ℕ) (v : mend_verdict x ≡ fine) (b : Bytes x) where
  first : ℕ → List Codeword
  first i = codewords_in (first_visits x i)

  rest : ℕ → List Codeword
  rest i = codewords_in (visits_over (length x) (directory x) (drop i (directory x)))

  split : (i : ℕ) → codewords x ≡ first i ++ rest i
  unfolding codewords visits first rest
  split i =
      ap (λ (es : List Entry). codewords_in (visits_over (length x) (directory x) es)) (sym (take-append-drop i (directory x)))
      ∙ ap codewords_in (visits_append (length x) (directory x) (take i (directory x)) (drop i (directory x)))
      ∙ codewords_append (first_visits x i) (visits_over (length x) (directory x) (drop i (directory x)))

  first_apart : (i : ℕ) → AllApart (length x) (first i)
  first_apart i = apart_left (first i) (rest i) (subst (AllApart (length x)) (split i) (apart x v))

  first_past : (i q c : ℕ) → Among q c (first i) → (header_length (count x) ≤ 8 * q) × (header_length (count x) ≤ c)
  first_past i q c m = past x v q c (subst (Among q c) (sym (split i)) (among_left (first i) (rest i) m))

  pub fixed_length : (i : ℕ) → length (fixed_to x i) ≡ length x
  unfolding fixed_to first
  fixed_length i = all_length (length x) x b refl (first_apart i)

  same : (i : ℕ) → SameHeader (fixed_to x i) x
  unfolding fixed_to first
  same i = header_kept x (fixed_to x i) (λ p h. all_other (length x) x b refl (first_apart i) p
      (λ q c m e. let g = (first_past i q c m).0 in omega arith) (λ q c m e. let g = (first_past i q c m).1 in omega arith))

  fixed_directory : (i : ℕ) → directory_of (count x) (fixed_to x i) ≡ directory x
  unfolding directory
  fixed_directory i = ap (λ (n : ℕ). directory_of n (fixed_to x i)) (sym (same i).count≡) ∙ same_directory (fixed_to x i) x (same i)

  fixed_entries_for : (i : ℕ) → entries_for (count x) (fixed_to x i) ≡ directory x
  unfolding entries_for
  fixed_entries_for i =
      ap (λ (t : Bool). cond t [] (directory_of (count x) (fixed_to x i))) (le-ltb (length (fixed_to x i)) (header_length (count x)) (omega (arith, fixed_length i, (accepted x v).long)))
      ∙ fixed_directory i

  -- entry i of the image as it stands is entry i of x
  next_visit : ℕ → List Visit
  next_visit i = visit_at (length x) (directory x) (nth i (directory x))

  fixed_visit : (i : ℕ) (y : List ℕ) → y ≡ fixed_to x i → visits_at (count x) y i ≡ next_visit i
  unfolding region_at next_visit
  fixed_visit i y e =
      ap (λ (z : List ℕ). visits_at (count x) z i) e ∙ ap₂ (λ (n : ℕ) (es : List Entry). visit_at n es (nth i es)) (fixed_length i) (fixed_entries_for i)

  first_next : (i : ℕ) → first_visits x (suc i) ≡ first_visits x i ++ next_visit i
  unfolding next_visit
  first_next i = visits_to (length x) (directory x) (directory x) i

  words_next : (i : ℕ) → codewords_in (first_visits x (suc i)) ≡ first i ++ codewords_in (next_visit i)
  unfolding first
  words_next i = ap codewords_in (first_next i) ∙ codewords_append (first_visits x i) (next_visit i)

  pub fixed_next : (i : ℕ) (y : List ℕ) → y ≡ fixed_to x i → fix_all (codewords_in (visits_at (count x) y i)) y ≡ fixed_to x (suc i)
  unfolding fixed_to first
  fixed_next i y e =
      ap₂ (λ (vs : List Visit) (z : List ℕ). fix_all (codewords_in vs) z) (fixed_visit i y e) e
      ∙ sym (ap (λ (ps : List Codeword). fix_all ps x) (words_next i) ∙ fix_all_append (first i) (codewords_in (next_visit i)) x)

  -- and is counted as a scan of x counts it
  pub report_next : (i : ℕ) (y : List ℕ) (o : Option Report) → y ≡ fixed_to x i → o ≡ reported_to x i
      → together o (reported (visits_at (count x) y i) (met true y (codewords_in (visits_at (count x) y i)))) ≡ reported_to x (suc i)
  unfolding reported_to fixed_to first
  report_next i y o e f =
      let vs = next_visit i in
      let qs = codewords_in vs in
      let z = fix_all (first i) x in
      ap (λ (ws : List Visit). together o (reported ws (met true y (codewords_in ws)))) (fixed_visit i y e)
      ∙ ap₂ (λ (p : Option Report) (w : List ℕ). together p (reported vs (met true w qs))) f e
      ∙ together_reported (first_visits x i) vs (met true x (first i)) (met true z qs)
      (λ g. none_met true x (first i) (none_there (first_visits x i) g).1) (λ g. none_met true z qs (none_there vs g).1)
      ∙ sym (ap₂ reported (first_next i) (ap (met true x) (words_next i) ∙ met_append x (first i) qs))

  pub report_all : (i : ℕ) → count x ≤ i → reported_to x i ≡ scan x
  unfolding reported_to codewords
  report_all i h =
      ap (λ (vs : List Visit). reported vs (met true x (codewords_in vs))) (all_visits x i h)
      ∙ ap (reported (visits x)) (met_apart (length x) x b refl (apart x v)) ∙ sym (scan_all x)

pub all_fixed : (x : List ℕ) (i : ℕ) → count x ≤ i → fixed_to x i ≡ mend_words x
unfolding fixed_to mend_words codewords
all_fixed x i h = ap (λ (vs : List Visit). fix_all (codewords_in vs) x) (all_visits x i h)

-- ---- of an image that mend accepts

-- the corrected words of a scan
scan_corrected : (x : List ℕ) → (or_zeros (scan x)).corrected ≡ total is_corrected (classes_at x (codewords x))
unfolding scan codewords scan_of codewords_in classes_at total report
scan_corrected x = go (visits x)
  where
    go : (vs : List Visit) → (or_zeros (scan_of x vs)).corrected ≡ total is_corrected (classes_at x (codewords_in vs))
    go [] = refl
    go (v ∷ vs) = refl

module _ (x : List ℕ) (v : mend_verdict x ≡ fine) (b : Bytes x) where
  pub mended_all : mend_words (mend_header x) ≡ mend_bytes x
  mended_all = header_then_words x v b

  -- the header half leaves an image that mend accepts
  pub after_header : (n : ℕ) (y : List ℕ) → n ≡ count x → y ≡ mend_header x → (n ≡ count y) × (mend_verdict y ≡ fine)
  after_header n y e f =
      (e ∙ sym (header_keeps x v b).count≡ ∙ ap count (sym f), ap mend_verdict f ∙ header_verdict_lem x v b)

  -- it moves no examined word
  pub header_scanned : (any_of (visits (mend_header x)) ≡ any_of (visits x)) × (report (classes_at (mend_header x) (codewords (mend_header x))) ≡ report (classes_at x (codewords x)))
  header_scanned = (
    ap any_of (same_visits (mend_header x) x (header_size x v b) (header_keeps x v b)),
    ap report (ap (classes_at (mend_header x)) (header_codewords x v b)
        ∙ classes_ext x (mend_header x) (codewords x) (λ q c m. (header_word x v b q c m, header_check x v b q c m))),
  )

  pub header_scan : scan (mend_header x) ≡ scan x
  header_scan = scan_all (mend_header x) ∙ ap₂ given header_scanned.0 header_scanned.1 ∙ sym (scan_all x)

  pub all_stored : (h w : ℕ) → h ≡ changed x (mend_header x) → w ≡ (or_zeros (scan x)).corrected → h + w ≡ changed x (mend_bytes x)
  all_stored h w e f =
      ap₂ (λ (m n : ℕ). m + n) (e ∙ header_part x (accepted x v).long) (f ∙ scan_corrected x) ∙ sym (stored_count x v b)

-- ---- the verdict

pub mend_refused : (x : List ℕ) (n d : ℕ) → mend_verdict x ≡ refuse n d → mend x ≡ model.refused_mend n d
unfolding mend
mend_refused x n d v = rw v

pub mend_fine : (x : List ℕ) → mend_verdict x ≡ fine → mend x ≡ model.mended (mend_bytes x) (scan x) (changed x (mend_bytes x)) (model.none_uncorrectable (scan x))
unfolding mend
mend_fine x v = rw v
