-- The writer's image read back: it parses, each row's region is found and hands back its payload, and the scan is clean. Assumes nothing.
use mathlib.Core.Path.{◌≡◌, refl, sym, ap, ◌∙◌, subst}
use mathlib.Core.Bool.{true, false}
use mathlib.Core.List.{List, [], ◌∷◌, ◌++◌}
use Rattle.std.specs.Prelude.{Some}
use Prim.Native.Nat.{ℕ, ◌+◌, ◌-◌, ◌*◌, ◌≤◌, ◌<◌}
use native.Mathlib.Nat.{add-zero, zero-add, add_assoc}
use native.Mathlib.Omega.{arith}
use borrow.Author.Tests.{eq-eqb, ne_eqb, eqb-false, le-ltb}
use lib.Dec.{eqb, ltb}
use lib.ListN.{length}
use lib.Seq.{ext_get_or}
use Rattle.model.specs.Bytes.{at, word_at, given, part, Bytes}
use Rattle.model.specs.Layout.{header_length, directory_of, directory, Entry}
use Rattle.model.specs.Parse.{parse, accepted}
use Rattle.model.specs.Views.{entries_for, first_that, of_kind, find_region, bytes_span, part_of}
use Rattle.model.specs.Parity.{Class, clean, decode}
use Rattle.model.specs.Scan.{Among, codewords, is_corrected, is_uncorrectable, total, classes_at, report, scan}
use Rattle.model.specs.Writer.{Row, protected_row, row_entry, row_entries, plane_entries, row_words_lem, planes_words, planes_bytes, planes, regions, first_word, plan_directory, plan_image, image_length, kind_among, image, write}
use Rattle.model.proofs.BytesLaw.{at_left}
use Rattle.model.proofs.ParityLaw.{decode_clean}
use Rattle.model.proofs.ScanLaw.{length_part, at_part, length_classes, scan_all}
use Rattle.lemmas.proofs.VerdictLaw.{or_left, or_right}
use Rattle.lemmas.proofs.EntriesLaw.{Accepted, accepted_image}
use Rattle.lemmas.proofs.PlanLaw.{RowsOK, PlanOK, wrote}
use Rattle.lemmas.proofs.PlanCodewords.{codewords_plan, plan_among}
use Rattle.lemmas.proofs.MendLaw.{InOrder}
use Rattle.lemmas.proofs.ImageLaw.{written_length, count_is, directory_back, codewords_back, any_back, in_order, in_body, parse_fine}
use Rattle.theorems.specs.Damage.{entry_of_row, ReadsBack}
use Rattle.theorems.proofs.MendParts.{total_zero}
use Rattle.theorems.proofs.Settles.{parses}

-- ---- a row's region is found by its kind

rows_rest : (s : Row) (rs : List Row) → RowsOK (s ∷ rs) → (kind_among s.kind rs ≡ false) × RowsOK rs
rows_rest s rs (RowsOK.cons k f n o) = (n, o)

other_row : (k : ℕ) (before : List Row) (r : Row) (behind : List Row) → kind_among k (before ++ (r ∷ behind)) ≡ false → r.kind ≡ k → ⊥
unfolding kind_among
other_row k [] r behind h e = eqb-false r.kind k (or_left (eqb r.kind k) (kind_among k behind) h) e
other_row k (s ∷ before) r behind h e = other_row k before r behind (or_right (eqb s.kind k) (kind_among k (before ++ (r ∷ behind))) h) e

find_row : (a : ℕ) (before : List Row) (r : Row) (behind : List Row) (fs : List Entry) → RowsOK (before ++ (r ∷ behind))
    → first_that (of_kind r.kind) (row_entries a (before ++ (r ∷ behind)) ++ fs)
    ≡ Some (row_entry (a + row_words_lem before) r)
unfolding first_that row_entries row_words_lem
find_row a [] r behind fs o = rw (eq-eqb r.kind r.kind refl, add-zero a)
find_row a (s ∷ before) r behind fs o =
    let p = rows_rest s (before ++ (r ∷ behind)) o in
    rw (ne_eqb s.kind r.kind (λ e. other_row s.kind before r behind p.0 (sym e)), sym (add_assoc a s.words (row_words_lem before)))
    (find_row (a + s.words) before r behind fs p.1)

-- ---- its bytes

words_append : (xs ys : List Row) → row_words_lem (xs ++ ys) ≡ row_words_lem xs + row_words_lem ys
unfolding row_words_lem
words_append [] ys = sym (zero-add (row_words_lem ys))
words_append (x ∷ xs) ys = ap (λ (n : ℕ). x.words + n) (words_append xs ys) ∙ sym (add_assoc x.words (row_words_lem xs) (row_words_lem ys))

part_ext : (x y : List ℕ) (a b c d : ℕ) → b ≤ length x → d ≤ length y → b - a ≡ d - c → ((j : ℕ) → j < b - a → at x (a + j) ≡ at y (c + j)) → part x a b ≡ part y c d
part_ext x y a b c d l m e f =
    ext_get_or 0 (part x a b) (part y c d) (length_part x a b l ∙ e ∙ sym (length_part y c d m))
    (λ j h. let g : j < b - a = omega (arith, length_part x a b l) in
    at_part x a b j g ∙ f j g ∙ sym (at_part y c d j (omega arith)))

image_room : (rs : List Row) → header_length (regions rs) + 8 * row_words_lem rs ≤ image_length rs
unfolding image_length
image_room rs = omega arith

-- ---- all of it

module _ (rs : List Row) (payload : List ℕ) (o : PlanOK rs payload) (b : Bytes payload) where
  w : List ℕ
  w = plan_image rs payload

  order : InOrder w
  unfolding w
  order = in_order rs payload o b

  fine : Accepted w
  unfolding w
  fine = accepted_image (plan_image rs payload) (parse_fine rs payload o)

  parsed : parse w ≡ accepted (record { regions = regions rs; prologue_disagreed = false; directory_disagreed = false })
  unfolding w
  parsed =
      parses w fine.long order.copies (parse_fine rs payload o)
      ∙ ap (λ (n : ℕ). accepted (record { regions = n; prologue_disagreed = false; directory_disagreed = false })) (count_is rs payload o)

  entries_entries_for : entries_for (regions rs) w ≡ plan_directory rs
  unfolding w entries_for directory
  entries_entries_for =
      rw (le-ltb (length w) (header_length (regions rs)) (omega (arith, image_room rs, written_length rs payload o)))
      (ap (λ (n : ℕ). directory_of n w) (sym (count_is rs payload o)) ∙ directory_back rs payload o)

  module _ (before : List Row) (r : Row) (behind : List Row) (e : rs ≡ before ++ (r ∷ behind)) where
    finds : find_region (regions rs) w r.kind ≡ Some (entry_of_row rs before r)
    unfolding find_region plan_directory
    finds =
        ap (first_that (of_kind r.kind)) entries_entries_for
        ∙ ap (λ (l : List Row). first_that (of_kind r.kind) (row_entries (first_word rs) l ++ plane_entries (first_word rs + row_words_lem rs) rs)) e
        ∙ find_row (first_word rs) before r behind (plane_entries (first_word rs + row_words_lem rs) rs) (subst RowsOK e o.rows)

    hands : part_of w (bytes_span (length w) (entry_of_row rs before r)) ≡ part payload (8 * row_words_lem before) (8 * (row_words_lem before + r.words))
    unfolding w bytes_span row_words_lem
    hands =
        let n : row_words_lem rs ≡ row_words_lem before + (r.words + row_words_lem behind) = ap row_words_lem e ∙ words_append before (r ∷ behind) in
        let full : length payload ≡ 8 * row_words_lem rs = o.full in
        let len : length w ≡ image_length rs = written_length rs payload o in
        let room : header_length (regions rs) + 8 * row_words_lem rs ≤ image_length rs = image_room rs in
        let s = 8 * (first_word rs + row_words_lem before) in
        let t = 8 * (first_word rs + row_words_lem before + r.words) in
        rw (le-ltb (length w) t (omega arith))
        (part_ext w payload s t (8 * row_words_lem before) (8 * (row_words_lem before + r.words)) (omega arith) (omega arith) (omega arith)
        (λ j h. let m : s + j ≡ header_length (regions rs) + (8 * row_words_lem before + j) = omega arith in
        ap (at w) m ∙ in_body rs payload o (8 * row_words_lem before + j)
        ∙ at_left payload (planes_bytes rs payload) (length payload) (8 * row_words_lem before + j) refl (omega arith)))

    protects : protected_row r ≡ true → (k : ℕ) → k < r.words
        → Among (first_word rs + row_words_lem before + k) (8 * (first_word rs + row_words_lem rs + planes_words before) + k) (codewords w)
    unfolding w
    protects t k h =
        subst (Among (first_word rs + row_words_lem before + k) (8 * (first_word rs + row_words_lem rs + planes_words before) + k))
        (ap (λ (l : List Row). codewords_plan l (first_word rs) (first_word rs + row_words_lem rs)) (sym e) ∙ sym (codewords_back rs payload o))
        (plan_among before r behind t (first_word rs) (first_word rs + row_words_lem rs) k h)

  all_clean : (f : Class → ℕ) → f clean ≡ 0 → total f (classes_at w (codewords w)) ≡ 0
  all_clean f z = total_zero f w (codewords w) (λ q c m. ap f (ap (decode (word_at w q)) (order.checks q c m) ∙ decode_clean (word_at w q)) ∙ z)

  scans : scan w ≡ given (ltb 0 (planes rs)) (record { words = length (codewords w); corrected = 0; uncorrectable = 0 })
  unfolding report w
  scans = scan_all w ∙ rw (any_back rs payload o, length_classes w (codewords w), all_clean is_corrected refl, all_clean is_uncorrectable refl)

  pub reads_back_lem : ReadsBack rs payload (plan_image rs payload)
  unfolding w
  reads_back_lem = record { parses = parsed; finds = finds; hands = hands; protects = protects; scans = scans }

pub read_back : (rs : List Row) (payload : List ℕ) (room : ℕ) (w : List ℕ) → write rs payload room ≡ image w → Bytes payload → ReadsBack rs payload w
read_back rs payload room w h b =
    let r = wrote rs payload room w h in
    subst (ReadsBack rs payload) r.is (reads_back_lem rs payload r.plan b)
