-- Laws of the scans and of scrub: over parts of the image, visit by visit. Assumes nothing.
use mathlib.Core.Path.{◌≡◌, refl, sym, ap, ap₂, ◌∙◌}
use mathlib.Core.Bool.{Bool, true, false, ◌||◌, or-true, or-false}
use mathlib.Core.List.{List, [], ◌∷◌, ◌++◌, append-nil, append_assoc}
use Prim.Native.Nat.{ℕ, zero, suc, ◌+◌, ◌-◌, ◌*◌, ◌/◌, ◌≤◌, ◌<◌, min}
use native.Mathlib.Nat.{add-zero, zero-add, add-suc, suc-add, add_assoc, mul-div_cancel, min-eq_left}
use native.Mathlib.Omega.{arith}
use lib.Dec.{lit<}
use lib.ListN.{length, take, drop, length-take, length-drop, length-append}
use lib.Seq.{get_or-take, get_or-drop, drop-nil}
use Rattle.model.specs.Bytes.{at, word_at, part, given, tabulate}
use Rattle.model.specs.Layout.{Entry}
use Rattle.model.specs.Parity.{Class, decode}
use Rattle.model.specs.Views.{nth}
use Rattle.model.specs.Scan.{Report, is_corrected, is_uncorrectable, total, report, slice_words, slice_scan, plane_of, is_protected, Visit, visit_with, visit_of, visits_over, visits, Codeword, codewords_from, words_of, codewords_in, codewords, class_at, classes_at, scan_of, scan}
use Rattle.model.specs.Scrub.{State, scrub_word, scrub_words, scrub_visits, visit_at}
use Rattle.model.proofs.BytesLaw.{tabulate-ext, read_ext}
use Rattle.model.specs.Steps.{plus, no_report, any_of}

-- ---- parts

pub length_part : (x : List ℕ) (a b : ℕ) → b ≤ length x → length (part x a b) ≡ b - a
length_part x a b h = simp (length-take, length-drop) (omega arith)

pub at_part : (x : List ℕ) (a b p : ℕ) → p < b - a → at (part x a b) p ≡ at x (a + p)
at_part x a b p h = get_or-take (b - a) (drop a x) p 0 h ∙ get_or-drop a x p 0

-- ---- the words of a part, and the words of the image

pub classes_tabulate : (x : List ℕ) (m q c : ℕ) → classes_at x (codewords_from m q c) ≡ tabulate m (λ w. decode (word_at x (q + w)) (at x (c + w)))
unfolding classes_at codewords_from tabulate class_at
classes_tabulate x zero q c = refl
classes_tabulate x (suc m) q c =
    ap₂ ◌∷◌ (ap₂ (λ (a b : ℕ). decode (word_at x a) (at x b)) (sym (add-zero q)) (sym (add-zero c)))
    (classes_tabulate x m (suc q) (suc c)
    ∙ tabulate-ext m (λ w. decode (word_at x (suc q + w)) (at x (suc c + w))) (λ w. decode (word_at x (q + suc w)) (at x (c + suc w)))
    (λ w h. ap₂ (λ (a b : ℕ). decode (word_at x a) (at x b)) (suc-add q w ∙ sym (add-suc q w)) (suc-add c w ∙ sym (add-suc c w))))

-- m words from word q on, and their check bytes from c on, as two slices
pub slice_scan_lem : (x : List ℕ) (m q c : ℕ) → 8 * (q + m) ≤ length x → c + m ≤ length x
    → slice_scan (part x (8 * q) (8 * q + 8 * m)) (part x c (c + m)) ≡ report (classes_at x (codewords_from m q c))
unfolding slice_scan slice_words
slice_scan_lem x m q c h l =
    ap report
    (ap (λ (n : ℕ). tabulate n f) count
    ∙ tabulate-ext m f (λ w. decode (word_at x (q + w)) (at x (c + w))) (λ w i. ap₂ decode (word w i) (at_part x c (c + m) w (omega arith)))
    ∙ sym (classes_tabulate x m q c))
  where
    f : ℕ → Class
    f w = decode (word_at (part x (8 * q) (8 * q + 8 * m)) w) (at (part x c (c + m)) w)

    word : (w : ℕ) → w < m → word_at (part x (8 * q) (8 * q + 8 * m)) w ≡ word_at x (q + w)
    word w i =
        read_ext 8 (part x (8 * q) (8 * q + 8 * m)) x (8 * w) (8 * (q + w))
        (λ j k. at_part x (8 * q) (8 * q + 8 * m) (8 * w + j) (omega arith) ∙ ap (at x) (omega arith))

    count : min (length (part x (8 * q) (8 * q + 8 * m)) / 8) (length (part x c (c + m))) ≡ m
    count =
        let a : 8 * q + 8 * m - 8 * q ≡ m * 8 = omega arith in
        let b : c + m - c ≡ m = omega arith in
        ap₂ (λ (i j : ℕ). min (i / 8) j) (length_part x (8 * q) (8 * q + 8 * m) (omega arith) ∙ a) (length_part x c (c + m) l ∙ b)
        ∙ ap (λ (i : ℕ). min i m) (mul-div_cancel m (lit< tt)) ∙ min-eq_left (omega arith)

-- ---- reports add up

pub total_append : (f : Class → ℕ) (cs ds : List Class) → total f (cs ++ ds) ≡ total f cs + total f ds
unfolding total
total_append f [] ds = omega arith
total_append f (c ∷ cs) ds = ap (λ (n : ℕ). f c + n) (total_append f cs ds) ∙ sym (add_assoc (f c) (total f cs) (total f ds))

pub classes_append : (x : List ℕ) (ps qs : List Codeword) → classes_at x (ps ++ qs) ≡ classes_at x ps ++ classes_at x qs
unfolding classes_at
classes_append x [] qs = refl
classes_append x (p ∷ ps) qs = ap (λ (l : List Class). class_at x p ∷ l) (classes_append x ps qs)

pub length_classes : (x : List ℕ) (ps : List Codeword) → length (classes_at x ps) ≡ length ps
unfolding classes_at
length_classes x [] = refl
length_classes x (p ∷ ps) = ap suc (length_classes x ps)

-- ---- the sum of two reports

pub plus_none : (r : Report) → plus r no_report ≡ r
plus_none r = rw (add-zero r.words, add-zero r.corrected, add-zero r.uncorrectable)

pub none_plus : (r : Report) → plus no_report r ≡ r
none_plus r = rw (zero-add r.words, zero-add r.corrected, zero-add r.uncorrectable)

pub plus_assoc : (a b c : Report) → plus (plus a b) c ≡ plus a (plus b c)
plus_assoc a b c =
    rw (add_assoc a.words b.words c.words, add_assoc a.corrected b.corrected c.corrected, add_assoc a.uncorrectable b.uncorrectable c.uncorrectable)

pub report_none : report [] ≡ no_report
unfolding report total
report_none = refl

pub report_append : (x : List ℕ) (ps qs : List Codeword) → report (classes_at x (ps ++ qs)) ≡ plus (report (classes_at x ps)) (report (classes_at x qs))
unfolding report
report_append x ps qs =
    rw (classes_append x ps qs, length-append (classes_at x ps) (classes_at x qs), total_append is_corrected (classes_at x ps) (classes_at x qs), total_append is_uncorrectable (classes_at x ps) (classes_at x qs))

-- ---- lists of visits

pub any_append : (vs ws : List Visit) → any_of (vs ++ ws) ≡ any_of vs || any_of ws
any_append [] ws = refl
any_append (v ∷ vs) ws = refl

pub codewords_append : (vs ws : List Visit) → codewords_in (vs ++ ws) ≡ codewords_in vs ++ codewords_in ws
unfolding codewords_in
codewords_append [] ws = refl
codewords_append (v ∷ vs) ws = ap (λ (ps : List Codeword). words_of v ++ ps) (codewords_append vs ws) ∙ sym (append_assoc (words_of v) (codewords_in vs) (codewords_in ws))

pub codewords_one : (v : Visit) → codewords_in (v ∷ []) ≡ words_of v
unfolding codewords_in
codewords_one v = append-nil (words_of v)

pub scan_given : (x : List ℕ) (vs : List Visit) → scan_of x vs ≡ given (any_of vs) (report (classes_at x (codewords_in vs)))
unfolding scan_of
scan_given x [] = refl
scan_given x (v ∷ vs) = refl

pub scan_all : (x : List ℕ) → scan x ≡ given (any_of (visits x)) (report (classes_at x (codewords x)))
unfolding scan codewords
scan_all x = scan_given x (visits x)

module _ (len : ℕ) (all : List Entry) where
  pub visit_plain : (e : Entry) → is_protected e ≡ false → visit_of len all e ≡ []
  unfolding visit_of
  visit_plain e h = rw h

  pub visit_protected : (e : Entry) → is_protected e ≡ true → visit_of len all e ≡ visit_with e (plane_of len all e)
  unfolding visit_of
  visit_protected e h = rw h

  pub visits_append : (es fs : List Entry) → visits_over len all (es ++ fs) ≡ visits_over len all es ++ visits_over len all fs
  unfolding visits_over
  visits_append [] fs = refl
  visits_append (e ∷ es) fs = simp (visits_append es fs, append_assoc)

  -- from entry i on
  pub visits_from : (es : List Entry) (i : ℕ) → visits_over len all (drop i es) ≡ visit_at len all (nth i es) ++ visits_over len all (drop (suc i) es)
  unfolding visits_over nth
  visits_from [] i = rw (drop-nil i)
  visits_from (e ∷ es) zero = refl
  visits_from (e ∷ es) (suc i) = visits_from es i

  -- up to entry i
  pub visits_to : (es : List Entry) (i : ℕ) → visits_over len all (take (suc i) es) ≡ visits_over len all (take i es) ++ visit_at len all (nth i es)
  unfolding visits_over nth
  visits_to [] zero = refl
  visits_to [] (suc i) = refl
  visits_to (e ∷ es) zero = append-nil (visit_of len all e)
  visits_to (e ∷ es) (suc i) =
      ap (λ (vs : List Visit). visit_of len all e ++ vs) (visits_to es i)
      ∙ sym (append_assoc (visit_of len all e) (visits_over len all (take i es)) (visit_at len all (nth i es)))

-- ---- scrub: the visits' words in turn, and a mark

abbrev pub mark : Bool → State → State
mark b s = record { image = s.image; met = s.met; visited = s.visited || b }

words_append : (ps qs : List Codeword) (s : State) → scrub_words (ps ++ qs) s ≡ scrub_words qs (scrub_words ps s)
unfolding scrub_words
words_append [] qs s = refl
words_append (p ∷ ps) qs s = words_append ps qs (scrub_word p s)

pub words_visited : (ps : List Codeword) (s : State) → (scrub_words ps s).visited ≡ s.visited
unfolding scrub_words scrub_word
words_visited [] s = refl
words_visited (p ∷ ps) s = words_visited ps (scrub_word p s)

-- where one was visited before, more visits are words alone
more_visits : (vs : List Visit) (s : State) → s.visited ≡ true → scrub_visits vs s ≡ scrub_words (codewords_in vs) s
unfolding scrub_visits codewords_in scrub_words
more_visits [] s h = refl
more_visits (v ∷ vs) s h =
    let t : State = record { image = s.image; met = s.met; visited = true } in
    more_visits vs (scrub_words (words_of v) t) (words_visited (words_of v) t) ∙ sym (words_append (words_of v) (codewords_in vs) t)
    ∙ ap (λ (b : Bool). scrub_words (words_of v ++ codewords_in vs) (record { image = s.image; met = s.met; visited = b })) (sym h)

pub visits_words : (vs : List Visit) (s : State) → scrub_visits vs s ≡ scrub_words (codewords_in vs) (mark (any_of vs) s)
unfolding scrub_visits codewords_in scrub_words
visits_words [] s = sym (rw (or-false s.visited))
visits_words (v ∷ vs) s = sym (rw (or-true s.visited) (sym (more_visits (v ∷ vs) (record { image = s.image; met = s.met; visited = true }) refl)))
