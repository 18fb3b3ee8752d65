-- Where mend accepts an image, scrub reports as the scan does, stores the repaired words and touches nothing else. Assumes nothing.
use mathlib.Core.Path.{◌≡◌, refl, sym, ap, ap₂, ◌∙◌, subst}
use mathlib.Core.Bool.{false, ◌||◌, or-false, or_assoc}
use mathlib.Core.List.{List, [], ◌∷◌, ◌++◌}
use Prim.Native.Nat.{ℕ, suc, ◌+◌, ◌*◌, ◌/◌, ◌≤◌, ◌<◌}
use native.Mathlib.Omega.{arith}
use lib.ListN.{length, drop}
use lib.Seq.{drop-drop}
use Rattle.model.specs.Bytes.{at, word_at, Bytes, given}
use Rattle.model.specs.Refusals.{fine}
use Rattle.model.specs.Layout.{count, header_length, directory, Entry}
use Rattle.model.specs.Parse.{parse_verdict}
use Rattle.model.specs.Parity.{Class, clean, flipped, uncorrectable, decode, flip_word, word_after, fixed_word}
use Rattle.model.specs.Scan.{Visit, visit_of, visits_over, visits, Codeword, Among, here, later, codewords_in, codewords, is_corrected, is_uncorrectable, total, Report, report, class_at, classes_at, scan}
use Rattle.model.specs.Scrub.{State, stored_word, scrub_word, scrub_words, Scrubbed, scrub_region, scrub_from, scrub}
use Rattle.model.specs.Mend.{mend_verdict}
use Rattle.model.proofs.BytesLaw.{read_ext, read_lt}
use Rattle.model.proofs.LayoutLaw.{length_directory_of}
use Rattle.model.proofs.WalkLaw.{nth_first}
use Rattle.model.proofs.ScanLaw.{plus_none, none_plus, plus_assoc, report_none, report_append, any_append, codewords_append, scan_all, mark, visits_words}
use Rattle.model.specs.Steps.{plus, any_of}
use Rattle.lemmas.specs.Steps.{scrub_all}
use Rattle.lemmas.proofs.HeaderLaw.{SameHeader, same_directory, same_parse, header_kept}
use Rattle.lemmas.proofs.CodeLaw.{word_after_low}
use Rattle.lemmas.proofs.CodewordLaw.{among_right}
use Rattle.lemmas.proofs.Fold.{word_length_lem, word_out, word_is, word_bytes, Inside, Free, AllApart, apart_right}
use Rattle.lemmas.proofs.Apart.{parsed, apart, past}

-- ---- one word

record Kept (p : Codeword) (x : List ℕ) (r : Class) (y : List ℕ) : Type 0 where
  size : length y ≡ length x
  bytes : Bytes y
  word : word_at y p.word ≡ word_after r (word_at x p.word)
  other : (i : ℕ) → (i / 8 ≡ p.word → ⊥) → at y i ≡ at x i

kept : (p : Codeword) (x : List ℕ) (r : Class) → Bytes x → Inside (length x) p → Kept p x r (stored_word r p x)
kept p x clean b s = record { size = refl; bytes = b; word = refl; other = λ i n. refl }
kept p x (flipped k) b s =
    let v = flip_word k (word_at x p.word) in
    record {
      size = word_length_lem x p.word v s.word;
      bytes = word_bytes x p.word v s.word b;
      word = word_is x p.word v s.word (word_after_low (flipped k) (word_at x p.word) (read_lt 8 x (8 * p.word) b));
      other = word_out x p.word v s.word;
    }
kept p x uncorrectable b s = record { size = refl; bytes = b; word = refl; other = λ i n. refl }

-- a codeword that is free of p keeps its word and its check byte
kept_free : {p : Codeword} {x : List ℕ} {r : Class} {y : List ℕ} → Kept p x r y → (q c : ℕ) → Free p q c → (word_at y q ≡ word_at x q) × (at y c ≡ at x c)
kept_free {x = x} {y = y} k q c f =
    (read_ext 8 y x (8 * q) (8 * q) (λ j l. k.other (8 * q + j) (λ e. f.words (sym e ∙ omega arith))), k.other c f.there_here)

-- ---- all words: what the image becomes

pub record Scrubs (x : List ℕ) (ps : List Codeword) (y : List ℕ) : Type 0 where
  pub size : length y ≡ length x
  pub bytes : Bytes y
  pub words : (q c : ℕ) → Among q c ps → word_at y q ≡ fixed_word (word_at x q) (at x c)
  pub others : (i : ℕ) → ((q c : ℕ) → Among q c ps → q ≡ i / 8 → ⊥) → at y i ≡ at x i

pub scrubs : (len : ℕ) (x : List ℕ) {ps : List Codeword} → Bytes x → length x ≡ len → AllApart len ps → Scrubs x ps (scrub_all ps x)
unfolding scrub_all
scrubs len x b e AllApart.nil = record { size = refl; bytes = b; words = λ q c m. elim m [ ]; others = λ i f. refl }
scrubs len x b e (AllApart.cons {p = p} {ps = ps} s f r) =
    let y : List ℕ = stored_word (class_at x p) p x in
    let k : Kept p x (class_at x p) y = kept p x (class_at x p) b (subst (λ (n : ℕ). Inside n p) (sym e) s) in
    let g : Scrubs y ps (scrub_all ps y) = scrubs len y k.bytes (k.size ∙ e) r in
    record { size = g.size ∙ k.size; bytes = g.bytes; words = words y k g; others = others y k g }
  where
    words : (y : List ℕ) → Kept p x (class_at x p) y → Scrubs y ps (scrub_all ps y) → (q c : ℕ) → Among q c (p ∷ ps)
        → word_at (scrub_all ps y) q ≡ fixed_word (word_at x q) (at x c)
    words y k g q c (here i j) =
        read_ext 8 (scrub_all ps y) y (8 * q) (8 * q) (λ n l. g.others (8 * q + n) (λ q' c' m h. (f q' c' m).words (i ∙ omega arith)))
        ∙ ap (word_at y) (sym i) ∙ k.word ∙ is ∙ ap₂ (λ (w d : ℕ). fixed_word (word_at x w) (at x d)) i j
      where
        is : word_after (class_at x p) (word_at x p.word) ≡ fixed_word (word_at x p.word) (at x p.check)
        is = unfold class_at fixed_word in refl
    words y k g q c (later m) =
        let e = kept_free k q c (f q c m) in
        g.words q c m ∙ ap₂ fixed_word e.0 e.1

    others : (y : List ℕ) → Kept p x (class_at x p) y → Scrubs y ps (scrub_all ps y) → (i : ℕ) → ((q c : ℕ) → Among q c (p ∷ ps) → q ≡ i / 8 → ⊥)
        → at (scrub_all ps y) i ≡ at x i
    others y k g i n = g.others i (λ q c m h. n q c (later m) h) ∙ k.other i (λ h. n p.word p.check (here refl refl) (sym h))

-- ---- the counts, and the image parsed afresh before each region

-- a class counts on either side
report_cons : (c : Class) (cs ds : List Class) → plus (report (c ∷ cs)) (report ds) ≡ plus (report cs) (report (c ∷ ds))
unfolding report total
report_cons c cs ds =
    let w : suc (length cs) + length ds ≡ length cs + suc (length ds) = omega arith in
    let k : is_corrected c + total is_corrected cs + total is_corrected ds ≡ total is_corrected cs + (is_corrected c + total is_corrected ds) = omega arith in
    let l : is_uncorrectable c + total is_uncorrectable cs + total is_uncorrectable ds ≡ total is_uncorrectable cs + (is_uncorrectable c + total is_uncorrectable ds) = omega arith in
    rw (w, k, l)

module _ (x : List ℕ) where
  -- the words that are still ahead stand as they stood at first
  record Ahead (ps : List Codeword) (y : List ℕ) : Type 0 where
    size : length y ≡ length x
    bytes : Bytes y
    head : (i : ℕ) → i < header_length (count x) → at y i ≡ at x i
    words : (q c : ℕ) → Among q c ps → word_at y q ≡ word_at x q
    checks : (q c : ℕ) → Among q c ps → at y c ≡ at x c

  Past : List Codeword → Type 0
  Past ps = (q c : ℕ) → Among q c ps → header_length (count x) ≤ 8 * q

  ahead_next : (p : Codeword) (ps : List Codeword) (y : List ℕ) (r : Class) → Ahead (p ∷ ps) y → AllApart (length x) (p ∷ ps) → Past (p ∷ ps) → Ahead ps (stored_word r p y)
  unfolding Past
  ahead_next p ps y r a (AllApart.cons s f t) h =
      let k : Kept p y r (stored_word r p y) = kept p y r a.bytes (subst (λ (n : ℕ). Inside n p) (sym a.size) s) in
      let past : header_length (count x) ≤ 8 * p.word = h p.word p.check (here refl refl) in
      record {
        size = k.size ∙ a.size;
        bytes = k.bytes;
        head = λ i l. k.other i (λ e. omega arith) ∙ a.head i l;
        words = λ q c m. (kept_free k q c (f q c m)).0 ∙ a.words q c (later m);
        checks = λ q c m. (kept_free k q c (f q c m)).1 ∙ a.checks q c (later m);
      }

  report_at : List Codeword → Report
  report_at ps = report (classes_at x ps)

  record Ran (xs ys : List Codeword) (s t : State) : Type 0 where
    ahead : Ahead ys t.image
    image : t.image ≡ scrub_all xs s.image
    visited : t.visited ≡ s.visited
    met : report t.met ≡ plus (report s.met) (report_at xs)

  run : (xs ys : List Codeword) (s : State) → Ahead (xs ++ ys) s.image → AllApart (length x) (xs ++ ys) → Past (xs ++ ys) → Ran xs ys s (scrub_words xs s)
  unfolding scrub_words scrub_word scrub_all report_at classes_at Past
  run [] ys s a b h =
      record { ahead = a; image = refl; visited = refl; met = sym (ap (plus (report s.met)) report_none ∙ plus_none (report s.met)) }
  run (p ∷ xs) ys s a (AllApart.cons i f b) h =
      let r = class_at s.image p in
      let r≡ : r ≡ class_at x p =
      unfold class_at in ap₂ decode (a.words p.word p.check (here refl refl)) (a.checks p.word p.check (here refl refl)) in
      let g = run xs ys (scrub_word p s) (ahead_next p (xs ++ ys) s.image r a (AllApart.cons i f b) h) b (λ q c m. h q c (later m)) in
      record {
        ahead = g.ahead;
        image = g.image;
        visited = g.visited;
        met = g.met ∙ report_cons r s.met (classes_at x xs) ∙ ap (λ (d : Class). plus (report s.met) (report (d ∷ classes_at x xs))) r≡;
      }

  scrub_all_append : (xs ys : List Codeword) (y : List ℕ) → scrub_all (xs ++ ys) y ≡ scrub_all ys (scrub_all xs y)
  unfolding scrub_all
  scrub_all_append [] ys y = refl
  scrub_all_append (p ∷ xs) ys y = scrub_all_append xs ys (stored_word (class_at y p) p y)

  -- what scrub answers if these visits are still to come
  outcome : State → List Visit → Scrubbed
  outcome s vs =
      record {
        image = scrub_all (codewords_in vs) s.image;
        report = given (s.visited || any_of vs) (plus (report s.met) (report_at (codewords_in vs)));
      }

  outcome_none : (s : State) → outcome s [] ≡ record { image = s.image; report = given s.visited (report s.met) }
  unfolding outcome scrub_all codewords_in report_at classes_at
  outcome_none s = rw (or-false s.visited, report_none, plus_none (report s.met))

  outcome_next : (s t : State) (vs ws : List Visit) → t.image ≡ scrub_all (codewords_in vs) s.image → t.visited ≡ s.visited || any_of vs
      → report t.met ≡ plus (report s.met) (report_at (codewords_in vs)) → outcome t ws ≡ outcome s (vs ++ ws)
  unfolding outcome report_at
  outcome_next s t vs ws m a r =
      let ps = codewords_in vs in
      let qs = codewords_in ws in
      rw (a, m, r, any_append vs ws, or_assoc s.visited (any_of vs) (any_of ws), codewords_append vs ws, scrub_all_append ps qs s.image, report_append x ps qs, plus_assoc (report s.met) (report (classes_at x ps)) (report (classes_at x qs)))

  module _ (P : parse_verdict x ≡ fine) where
    rest : List Entry → List Visit
    rest fs = visits_over (length x) (directory x) fs

    from : (fs : List Entry) (i : ℕ) (s : State) → drop i (directory x) ≡ fs
        → Ahead (codewords_in (rest fs)) s.image → AllApart (length x) (codewords_in (rest fs)) → Past (codewords_in (rest fs))
        → scrub_from (length fs) i s ≡ outcome s (rest fs)
    unfolding scrub_from scrub_region rest visits_over Past
    from [] i s e a b h = sym (outcome_none s)
    from (g ∷ fs) i s e a b h =
        let k : SameHeader s.image x = header_kept x s.image a.head in
        let v : parse_verdict s.image ≡ fine = same_parse s.image x a.size k ∙ P in
        let vs : List Visit = visit_of (length x) (directory x) g in
        let ps : List Codeword = codewords_in vs in
        let qs : List Codeword = codewords_in (rest fs) in
        let split : codewords_in (vs ++ rest fs) ≡ ps ++ qs = codewords_append vs (rest fs) in
        let r = run ps qs (mark (any_of vs) s) (subst (λ (l : List Codeword). Ahead l (mark (any_of vs) s).image) split a) (subst (AllApart (length x)) split b) (subst Past split h) in
        let t : State = scrub_words ps (mark (any_of vs) s) in
        let u : suc i ≡ i + 1 = omega arith in
        rw (v, same_directory s.image x k, nth_first (directory x) i g fs e, a.size, visits_words vs s)
        (from fs (suc i) t (ap (λ (n : ℕ). drop n (directory x)) u ∙ sym (drop-drop 1 i (directory x)) ∙ ap (drop 1) e)
        r.ahead (apart_right ps qs (subst (AllApart (length x)) split b)) (λ q c m. h q c (subst (Among q c) (sym split) (among_right ps qs m)))
        ∙ outcome_next s t vs (rest fs) r.image r.visited r.met)

length_directory : (x : List ℕ) → length (directory x) ≡ count x
unfolding directory
length_directory x = length_directory_of (count x) x

pub scrub_is : (x : List ℕ) → mend_verdict x ≡ fine → Bytes x → scrub x ≡ record { image = scrub_all (codewords x) x; report = scan x }
unfolding scrub codewords visits Past outcome report_at rest
scrub_is x v b =
    let s : State = record { image = x; met = []; visited = false } in
    rw (parsed x v)
    (ap (λ (n : ℕ). scrub_from n 0 s) (sym (length_directory x))
    ∙ from x (parsed x v) (directory x) 0 s refl
    (record { size = refl; bytes = b; head = λ i h. refl; words = λ q c m. refl; checks = λ q c m. refl })
    (apart x v) (λ q c m. (past x v q c m).0)
    ∙ rw (report_none, none_plus (report (classes_at x (codewords x))), scan_all x))
