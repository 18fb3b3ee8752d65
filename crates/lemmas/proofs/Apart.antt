-- The examined words of an image that mend accepts lie apart, from each other and from the header. Assumes nothing.
use mathlib.Core.Path.{◌≡◌, refl, sym, ap, ◌∙◌, subst}
use mathlib.Core.Bool.{Bool, true, false, not, ◌&&◌, ◌||◌, cond}
use mathlib.Core.List.{List, [], ◌∷◌, ◌++◌}
use mathlib.Core.Logic.{◌⊎◌, inl, inr}
use Rattle.std.specs.Prelude.{Option, None, Some}
use Prim.Native.Nat.{ℕ, zero, suc, ◌+◌, ◌*◌, ◌/◌, ◌≤◌, ◌<◌, min}
use native.Mathlib.Omega.{arith}
use borrow.Author.Tests.{ltb-false, lt-ltb}
use lib.Dec.{ltb}
use lib.ListN.{length}
use Rattle.model.specs.Refusals.{fine}
use Rattle.model.specs.Layout.{Entry, header_length, is_plane, has_ecc, count, directory}
use Rattle.model.specs.Parse.{parse_verdict}
use Rattle.model.specs.Scan.{plane_of, Codeword, codewords_from, is_protected, visit_with, visit_of, visits_over, visits, words_of, codewords_in, Among, here, later, codewords}
use Rattle.model.specs.Mend.{meets, in_header, mend_verdict}
use Rattle.model.proofs.ScanLaw.{codewords_one, codewords_append}
use Rattle.lemmas.proofs.VerdictLaw.{true_false, passed, passed_both, or_left, or_right}
use Rattle.lemmas.proofs.ApartVerdict.{meets_any_lem, apart_verdict, mend_verdict_lem}
use Rattle.lemmas.proofs.EntriesLaw.{In, now, next, EntriesOK, ends, other_kind, Accepted, accepted_image, Plane, found_plane}
use Rattle.lemmas.proofs.CodewordLaw.{among_append, among_from}
use Rattle.lemmas.proofs.Fold.{Inside, Free, AllApart}

-- ---- laid apart

-- no word is in both
pub Disjoint : Entry → Entry → Type 0
Disjoint e f = (i : ℕ) → e.offset ≤ i → i < e.offset + e.words → f.offset ≤ i → i < f.offset + f.words → ⊥

not_meets : (e f : Entry) → meets e f ≡ false → Disjoint e f
unfolding meets Disjoint
not_meets e f h i a b c d =
    let e₀ = lt-ltb 0 e.words (omega arith) in
    let f₀ = lt-ltb 0 f.words (omega arith) in
    let ef = lt-ltb e.offset (f.offset + f.words) (omega arith) in
    let fe = lt-ltb f.offset (e.offset + e.words) (omega arith) in
    true_false (sym (rw (e₀, f₀, ef, fe)) ∙ h)

disjoint_sym : (e f : Entry) → Disjoint e f → Disjoint f e
unfolding Disjoint
disjoint_sym e f d i a b c g = d i c g a b

not_meets_any : (e : Entry) (fs : List Entry) → meets_any_lem e fs ≡ false → (f : Entry) → In f fs → Disjoint e f
unfolding meets_any_lem
not_meets_any e [] h f m = elim m [ ]
not_meets_any e (g ∷ fs) h f (now p) = subst (Disjoint e) (sym p) (not_meets e g (or_left (meets e g) (meets_any_lem e fs) h))
not_meets_any e (g ∷ fs) h f (next i) = not_meets_any e fs (or_right (meets e g) (meets_any_lem e fs) h) f i

pub record LaidApart (n : ℕ) (earlier es : List Entry) : Type 0 where
  pub past : (e : Entry) → In e es → 0 < e.words → header_length n ≤ 8 * e.offset
  pub older : (e f : Entry) → In e es → In f earlier → Disjoint e f
  pub among : (e f : Entry) → In e es → In f es → (e ≡ f → ⊥) → Disjoint e f

not_in_header : (n : ℕ) (e : Entry) → in_header n e ≡ false → 0 < e.words → header_length n ≤ 8 * e.offset
unfolding in_header
not_in_header n e h l = ltb-false (8 * e.offset) (header_length n) (sym (ap (λ (t : Bool). t && ltb (8 * e.offset) (header_length n)) (lt-ltb 0 e.words l)) ∙ h)

pub laid_apart : (n i : ℕ) (earlier es : List Entry) → apart_verdict n i earlier es ≡ fine → LaidApart n earlier es
unfolding apart_verdict
laid_apart n i earlier [] h = record { past = λ e m. elim m [ ]; older = λ e f m. elim m [ ]; among = λ e f m. elim m [ ] }
laid_apart n i earlier (g ∷ es) h =
    let a = passed (in_header n g || meets_any_lem g earlier) 12 i (apart_verdict n (suc i) (g ∷ earlier) es) h in
    let r = laid_apart n (suc i) (g ∷ earlier) es a.1 in
    let c = or_left (in_header n g) (meets_any_lem g earlier) a.0 in
    let d = or_right (in_header n g) (meets_any_lem g earlier) a.0 in
    record { past = past r c; older = older r d; among = both r }
  where
    past : LaidApart n (g ∷ earlier) es → in_header n g ≡ false → (e : Entry) → In e (g ∷ es) → 0 < e.words → header_length n ≤ 8 * e.offset
    past r c e (now p) l = not_in_header n e (ap (in_header n) p ∙ c) l
    past r c e (next m) l = r.past e m l

    older : LaidApart n (g ∷ earlier) es → meets_any_lem g earlier ≡ false → (e f : Entry) → In e (g ∷ es) → In f earlier → Disjoint e f
    older r d e f (now p) m = subst (λ (z : Entry). Disjoint z f) (sym p) (not_meets_any g earlier d f m)
    older r d e f (next k) m = r.older e f k (next m)

    both : LaidApart n (g ∷ earlier) es → (e f : Entry) → In e (g ∷ es) → In f (g ∷ es) → (e ≡ f → ⊥) → Disjoint e f
    both r e f (now p) (now q) n = absurd (n (p ∙ sym q))
    both r e f (now p) (next m) n = disjoint_sym f e (r.older f e m (now p))
    both r e f (next k) (now q) n = r.older e f k (now q)
    both r e f (next k) (next m) n = r.among e f k m n

-- ---- where an examined word comes from

pub record Origin (all : List Entry) (e : Entry) (q c : ℕ) : Type 0 where
  pub no_plane : is_plane e.flags ≡ false
  pub plane : Entry
  pub found : Plane e.kind all plane
  pub k : ℕ
  pub in_region : k < e.words
  pub in_plane : k < 8 * plane.words
  pub word : q ≡ e.offset + k
  pub check : c ≡ 8 * plane.offset + k

origin : (len : ℕ) (all : List Entry) (e : Entry) {q c : ℕ} → is_plane e.flags ≡ false → Among q c (codewords_in (visit_with e (plane_of len all e))) → Origin all e q c
unfolding codewords_in words_of
origin len all e n m = go (plane_of len all e) refl m
  where
    go : {q c : ℕ} (r : Option Entry) → plane_of len all e ≡ r → Among q c (codewords_in (visit_with e r)) → Origin all e q c
    go None h i = elim i [ ]
    go (Some p) h i =
        let s = among_from (min e.words (8 * p.words)) e.offset (8 * p.offset) (subst (Among _ _) (codewords_one (record { region = e; plane = p })) i) in
        record {
          no_plane = n;
          plane = p;
          found = found_plane len all e p h;
          k = s.k;
          in_region = omega (arith, s.inside);
          in_plane = omega (arith, s.inside);
          word = s.word;
          check = s.check;
        }

pub record OriginIn (all es : List Entry) (q c : ℕ) : Type 0 where
  pub entry : Entry
  pub there : In entry es
  pub origin : Origin all entry q c

protected_codewords : (len : ℕ) (all : List Entry) (e : Entry) {q c : ℕ} → Among q c (codewords_in (visit_of len all e)) → Origin all e q c
unfolding visit_of is_protected codewords_in
protected_codewords len all e m = go (is_plane e.flags) refl (has_ecc e.flags) m
  where
    go : {q c : ℕ} (t : Bool) → is_plane e.flags ≡ t → (u : Bool) → Among q c (codewords_in (cond (not t && u) (visit_with e (plane_of len all e)) [])) → Origin all e q c
    go true h u i = elim i [ ]
    go false h true i = origin len all e h i
    go false h false i = elim i [ ]

pub origin_in : (len : ℕ) (all es : List Entry) {q c : ℕ} → Among q c (codewords_in (visits_over len all es)) → OriginIn all es q c
unfolding visits_over codewords_in
origin_in len all [] m = elim m [ ]
origin_in len all (e ∷ es) m =
    go (λ i. origin_in len all es i)
    (among_append (codewords_in (visit_of len all e)) (codewords_in (visits_over len all es)) (subst (Among _ _) (codewords_append (visit_of len all e) (visits_over len all es)) m))
  where
    go : {q c : ℕ} → (Among q c (codewords_in (visits_over len all es)) → OriginIn all es q c)
        → Among q c (codewords_in (visit_of len all e)) ⊎ Among q c (codewords_in (visits_over len all es)) → OriginIn all (e ∷ es) q c
    go f (inl i) = record { entry = e; there = now refl; origin = protected_codewords len all e i }
    go f (inr i) = let r = f i in record { entry = r.entry; there = next r.there; origin = r.origin }

-- ---- apart

append_apart : {len : ℕ} (x y : List Codeword) → AllApart len x → AllApart len y
    → ((q c q' c' : ℕ) → Among q c x → Among q' c' y → Free (record { word = q; check = c }) q' c') → AllApart len (x ++ y)
append_apart x y AllApart.nil b f = b
append_apart x y (AllApart.cons {p = p} {ps = ps} s g r) b f =
    AllApart.cons s (λ q c m. go q c (among_append ps y m))
    (append_apart ps y r b (λ q c q' c' i j. f q c q' c' (later i) j))
  where
    go : (q c : ℕ) → Among q c ps ⊎ Among q c y → Free p q c
    go q c (inl i) = g q c i
    go q c (inr i) = f p.word p.check q c (here refl refl) i

module _ (len n : ℕ) (all : List Entry) (ok : EntriesOK len all) (apart : LaidApart n [] all) where
  -- a region and a plane, or two regions, or two planes
  away : (e f : Entry) → In e all → In f all → (e ≡ f → ⊥) → (i : ℕ) → e.offset ≤ i → i < e.offset + e.words → f.offset ≤ i → i < f.offset + f.words → ⊥
  unfolding Disjoint
  away e f a b d = apart.among e f a b d

  module _ (e : Entry) (there : In e all) {q c : ℕ} (o : Origin all e q c) where
    at_word : (e.offset ≤ q) × (q < e.offset + e.words)
    at_word = (omega (arith, o.word), omega (arith, o.word, o.in_region))

    at_plane : (o.plane.offset ≤ c / 8) × (c / 8 < o.plane.offset + o.plane.words)
    at_plane = (omega (arith, o.check), omega (arith, o.check, o.in_plane))

  no_plane_lem : (e p : Entry) → is_plane e.flags ≡ false → is_plane p.flags ≡ true → e ≡ p → ⊥
  no_plane_lem e p h g d = true_false (sym g ∙ ap (λ (z : Entry). is_plane z.flags) (sym d) ∙ h)

  inside : (e : Entry) → In e all → (q c : ℕ) → Origin all e q c → Inside len (record { word = q; check = c })
  inside e m q c o =
      let w = at_word e m o in
      let p = at_plane e m o in
      let h : 8 * (e.offset + e.words) ≤ len = ends len ok e m in
      let g : 8 * (o.plane.offset + o.plane.words) ≤ len = ends len ok o.plane o.found.there in
      record {
        word = omega arith;
        check = omega arith;
        self = λ d. away e o.plane m o.found.there (no_plane_lem e o.plane o.no_plane o.found.plane) q w.0 w.1
            (subst (λ (i : ℕ). o.plane.offset ≤ i) d p.0) (subst (λ (i : ℕ). i < o.plane.offset + o.plane.words) d p.1);
      }

  free : (e f : Entry) → In e all → In f all → (e.kind ≡ f.kind → ⊥) → (q c q' c' : ℕ) → Origin all e q c → Origin all f q' c'
      → Free (record { word = q; check = c }) q' c'
  free e f m k d q c q' c' o r =
      let w = at_word e m o in
      let p = at_plane e m o in
      let w' = at_word f k r in
      let p' = at_plane f k r in
      record {
        words = λ g. away e f m k (λ z. d (ap (λ (x : Entry). x.kind) z)) q w.0 w.1
            (subst (λ (i : ℕ). f.offset ≤ i) (sym g) w'.0) (subst (λ (i : ℕ). i < f.offset + f.words) (sym g) w'.1);
        checks = λ g.
            away o.plane r.plane o.found.there r.found.there
            (λ z. d (sym o.found.covers ∙ ap (λ (x : Entry). x.covers) z ∙ r.found.covers)) (c / 8) p.0 p.1
            (subst (λ (i : ℕ). r.plane.offset ≤ i / 8) (sym g) p'.0) (subst (λ (i : ℕ). i / 8 < r.plane.offset + r.plane.words) (sym g) p'.1);
        here_there = λ g.
            away f o.plane k o.found.there (no_plane_lem f o.plane r.no_plane o.found.plane) q' w'.0 w'.1
            (subst (λ (i : ℕ). o.plane.offset ≤ i) g p.0) (subst (λ (i : ℕ). i < o.plane.offset + o.plane.words) g p.1);
        there_here = λ g.
            away e r.plane m r.found.there (no_plane_lem e r.plane o.no_plane r.found.plane) q w.0 w.1
            (subst (λ (i : ℕ). r.plane.offset ≤ i) g p'.0) (subst (λ (i : ℕ). i < r.plane.offset + r.plane.words) g p'.1);
      }

  -- one region's words
  run_apart : (e p : Entry) → In e all → is_plane e.flags ≡ false → Plane e.kind all p
      → (j a c : ℕ) (k : ℕ) → a ≡ e.offset + k → c ≡ 8 * p.offset + k → k + j ≤ e.words → k + j ≤ 8 * p.words → AllApart len (codewords_from j a c)
  unfolding codewords_from
  run_apart e p m h f zero a c k x y u v = AllApart.nil
  run_apart e p m h f (suc j) a c k x y u v =
      AllApart.cons
      (inside e m a c (record { no_plane = h; plane = p; found = f; k = k; in_region = omega arith; in_plane = omega arith; word = x; check = y }))
      (λ q d i.
      let s = among_from j (suc a) (suc c) i in
      let w : q ≡ suc a + s.k = s.word in
      let z : d ≡ suc c + s.k = s.check in
      let l : s.k < j = s.inside in
      record {
        words = λ g. omega arith;
        checks = λ g. omega arith;
        here_there = λ g.
            away e p m f.there (no_plane_lem e p h f.plane) q (omega arith) (omega arith) (omega arith) (omega arith);
        there_here = λ g.
            away e p m f.there (no_plane_lem e p h f.plane) a (omega arith) (omega arith) (omega arith) (omega arith);
      })
      (run_apart e p m h f j (suc a) (suc c) (suc k) (omega arith) (omega arith) (omega arith) (omega arith))

  region_apart : (e : Entry) → In e all → AllApart len (codewords_in (visit_of len all e))
  unfolding visit_of is_protected codewords_in words_of
  region_apart e m = go (is_plane e.flags) refl (has_ecc e.flags) (plane_of len all e) refl
    where
      go : (t : Bool) → is_plane e.flags ≡ t → (u : Bool) (r : Option Entry) → plane_of len all e ≡ r → AllApart len (codewords_in (cond (not t && u) (visit_with e r) []))
      go true h u r g = AllApart.nil
      go false h false r g = AllApart.nil
      go false h true None g = AllApart.nil
      go false h true (Some p) g =
          subst (AllApart len) (sym (codewords_one (record { region = e; plane = p })))
          (run_apart e p m h (found_plane len all e p g) (min e.words (8 * p.words)) e.offset (8 * p.offset) 0 (omega arith) (omega arith)
          (omega arith) (omega arith))

  over_apart : (es : List Entry) → EntriesOK len es → ((e : Entry) → In e es → In e all) → AllApart len (codewords_in (visits_over len all es))
  unfolding visits_over codewords_in
  over_apart es EntriesOK.nil f = AllApart.nil
  over_apart es (EntriesOK.cons {e = e} {es = fs} h k r) f =
      subst (AllApart len) (sym (codewords_append (visit_of len all e) (visits_over len all fs)))
      (append_apart (codewords_in (visit_of len all e)) (codewords_in (visits_over len all fs))
      (region_apart e (f e (now refl)))
      (over_apart fs r (λ g m. f g (next m)))
      (λ q c q' c' i j.
      let o = origin_in len all fs j in
      free e o.entry (f e (now refl)) (f o.entry (next o.there))
      (λ d. other_kind e.kind fs k o.entry o.there (sym d)) q c q' c' (protected_codewords len all e i) o.origin))

  pub codewords_apart : AllApart len (codewords_in (visits_over len all all))
  codewords_apart = over_apart all ok (λ e m. m)

  -- examined words and check bytes lie past the header
  pub codewords_past : (q c : ℕ) → Among q c (codewords_in (visits_over len all all)) → (header_length n ≤ 8 * q) × (header_length n ≤ c)
  codewords_past q c m =
      let o = origin_in len all all m in
      let r = o.origin in
      let a : header_length n ≤ 8 * o.entry.offset = apart.past o.entry o.there (omega (arith, r.in_region)) in
      let b : header_length n ≤ 8 * r.plane.offset = apart.past r.plane r.found.there (omega (arith, r.in_plane)) in
      (omega (arith, r.word), omega (arith, r.check))

-- ---- of an image that mend accepts

module _ (x : List ℕ) (v : mend_verdict x ≡ fine) where
  verdicts : (parse_verdict x ≡ fine) × (apart_verdict (count x) 0 [] (directory x) ≡ fine)
  verdicts = passed_both (parse_verdict x) (apart_verdict (count x) 0 [] (directory x)) (sym (mend_verdict_lem x) ∙ v)

  pub parsed : parse_verdict x ≡ fine
  parsed = verdicts.0

  pub accepted : Accepted x
  accepted = accepted_image x parsed

  pub laid : LaidApart (count x) [] (directory x)
  laid = laid_apart (count x) 0 [] (directory x) verdicts.1

  pub apart : AllApart (length x) (codewords x)
  unfolding codewords visits
  apart = codewords_apart (length x) (count x) (directory x) accepted.entries laid

  pub past : (q c : ℕ) → Among q c (codewords x) → (header_length (count x) ≤ 8 * q) × (header_length (count x) ≤ c)
  unfolding codewords visits
  past = codewords_past (length x) (count x) (directory x) accepted.entries laid
