-- The visits and examined words of a plan's directory, and that their check bytes are theirs. Assumes nothing.
use mathlib.Core.Path.{◌≡◌, refl, sym, ap, ap₂, ◌∙◌, subst}
use mathlib.Core.Bool.{Bool, true, false, not, ◌&&◌, cond}
use mathlib.Core.List.{List, [], ◌∷◌, ◌++◌, append-nil}
use mathlib.Core.Logic.{◌⊎◌, inl, inr}
use Rattle.std.specs.Prelude.{Option, Some}
use Prim.Native.Nat.{ℕ, zero, suc, ◌+◌, ◌-◌, ◌*◌, ◌/◌, ◌<◌, min}
use native.Mathlib.Nat.{add-zero, zero-add, add_assoc, min-eq_left, le_of_suc-le-suc, not-suc-le-zero}
use native.Mathlib.Omega.{arith}
use borrow.Author.Tests.{eq-eqb, ne_eqb, eqb-false, lt-ltb}
use lib.Dec.{eqb, ltb}
use lib.ListN.{length, drop, replicate, length-append, length-replicate}
use lib.Seq.{get_or-drop}
use Rattle.bits.specs.Bit.{bit}
use Rattle.bits.proofs.BitLaw.{bit_high}
use Rattle.model.specs.Bytes.{at, read, word_at}
use Rattle.model.specs.Layout.{Entry, is_plane}
use Rattle.model.specs.Parity.{check_of}
use Rattle.model.specs.Views.{first_that, plane_for}
use Rattle.model.specs.Scan.{plane_of, Visit, visit_with, visit_of, visits_over, Codeword, codewords_from, words_of, codewords_in, is_protected, Among}
use Rattle.model.specs.Writer.{Row, protected_row, plane_words, row_entry, row_entries, plane_entry, plane_entries, row_words_lem, planes_words, planes, kind_among, checks, plane_bytes, planes_bytes}
use Rattle.model.proofs.BytesLaw.{read_ext, read_drop, at_left, at_right}
use Rattle.model.proofs.ScanLaw.{codewords_append, visits_append}
use Rattle.model.specs.Steps.{any_of}
use Rattle.lemmas.proofs.VerdictLaw.{true_false, or_left, or_right}
use Rattle.lemmas.proofs.EntriesLaw.{In, now, next, in_left, EntriesOK, plane_plain}
use Rattle.lemmas.proofs.CodewordLaw.{among_append, among_left, among_right, Step, among_from, from_among}
use Rattle.lemmas.proofs.PlanLaw.{RowsOK}

-- ---- as the plan has them: rows from word a on, planes from word b on

unfoldable pub visits_plan : List Row → ℕ → ℕ → List Visit
visits_plan [] a b = []
visits_plan (r ∷ rs) a b =
    cond (protected_row r) (record { region = row_entry a r; plane = plane_entry b r } ∷ []) [] ++ visits_plan rs (a + r.words) (b + cond (protected_row r) (plane_words r) 0)

unfoldable pub codewords_plan : List Row → ℕ → ℕ → List Codeword
codewords_plan [] a b = []
codewords_plan (r ∷ rs) a b =
    cond (protected_row r) (codewords_from r.words a (8 * b)) [] ++ codewords_plan rs (a + r.words) (b + cond (protected_row r) (plane_words r) 0)

pub plan_codewords : (rs : List Row) (a b : ℕ) → codewords_in (visits_plan rs a b) ≡ codewords_plan rs a b
unfolding visits_plan codewords_plan codewords_in words_of plane_entry
plan_codewords [] a b = refl
plan_codewords (r ∷ rs) a b =
    codewords_append (cond (protected_row r) (record { region = row_entry a r; plane = plane_entry b r } ∷ []) []) (visits_plan rs (a + r.words) (b + cond (protected_row r) (plane_words r) 0))
    ∙ ap₂ (λ (x y : List Codeword). x ++ y) (go (protected_row r)) (plan_codewords rs (a + r.words) (b + cond (protected_row r) (plane_words r) 0))
  where
    -- no words past the plane
    covered : min r.words (8 * ((r.words + 7) / 8)) ≡ r.words
    covered = min-eq_left (omega arith)

    go : (t : Bool) → codewords_in (cond t (record { region = row_entry a r; plane = plane_entry b r } ∷ []) []) ≡ cond t (codewords_from r.words a (8 * b)) []
    go true = append-nil (codewords_from (min r.words (8 * plane_words r)) a (8 * b)) ∙ ap (λ (n : ℕ). codewords_from n a (8 * b)) covered
    go false = refl

-- some region is visited exactly if a row is flagged 2
pub plan_any : (rs : List Row) (a b : ℕ) → any_of (visits_plan rs a b) ≡ ltb 0 (planes rs)
unfolding visits_plan planes
plan_any [] a b = refl
plan_any (r ∷ rs) a b = go (plan_any rs (a + r.words) (b + 0)) (protected_row r)
  where
    go : any_of (visits_plan rs (a + r.words) (b + 0)) ≡ ltb 0 (planes rs) → (t : Bool)
        → any_of (cond t (record { region = row_entry a r; plane = plane_entry b r } ∷ []) [] ++ visits_plan rs (a + r.words) (b + cond t (plane_words r) 0))
        ≡ ltb 0 (cond t 1 0 + planes rs)
    go h true = sym (lt-ltb 0 (1 + planes rs) (omega arith))
    go h false = h ∙ ap (ltb 0) (sym (zero-add (planes rs)))

-- ---- each protected row's plane is the first that covers its kind

-- the planes lie from word b on
data Finds (all : List Entry) : List Row → ℕ → Type 0 where
  nil : {b : ℕ} → Finds all [] b
  cons : {r : Row} {rs : List Row} {b : ℕ} → (protected_row r ≡ true → first_that (plane_for r.kind) all ≡ Some (plane_entry b r))
      → Finds all rs (b + cond (protected_row r) (plane_words r) 0) → Finds all (r ∷ rs) b

-- a plane of another kind in front changes nothing
finds_plane : (c : ℕ) (s : Row) (all : List Entry) {rs : List Row} {b : ℕ} → kind_among s.kind rs ≡ false → Finds all rs b → Finds (plane_entry c s ∷ all) rs b
unfolding kind_among first_that plane_entry bit
finds_plane c s all h nil = nil
finds_plane c s all h (cons {r = r} {rs = rs} f g) =
    cons (λ t. skip (eqb-false r.kind s.kind (or_left (eqb r.kind s.kind) (kind_among s.kind rs) h)) (f t))
    (finds_plane c s all (or_right (eqb r.kind s.kind) (kind_among s.kind rs) h) g)
  where
    skip : {m : Option Entry} → (r.kind ≡ s.kind → ⊥) → first_that (plane_for r.kind) all ≡ m
        → cond (eqb s.kind r.kind) (Some (plane_entry c s)) (first_that (plane_for r.kind) all) ≡ m
    skip n e = rw (ne_eqb s.kind r.kind (λ g. n (sym g))) e

-- neither does an entry that is no plane
finds_row : (e : Entry) (all : List Entry) {rs : List Row} {b : ℕ} → is_plane e.flags ≡ false → Finds all rs b → Finds (e ∷ all) rs b
unfolding first_that
finds_row e all h nil = nil
finds_row e all h (cons {r = r} {b = b} f g) = cons {r = r} {b = b} (λ t. rw h (f t)) (finds_row e all h g)

finds_planes : (rs : List Row) (b : ℕ) → RowsOK rs → Finds (plane_entries b rs) rs b
unfolding plane_entries first_that plane_entry bit
finds_planes rs b RowsOK.nil = nil
finds_planes rs b (RowsOK.cons {r = r} {rs = ss} k f n o) = go (λ m. finds_planes ss m o) (protected_row r) refl
  where
    go : ((m : ℕ) → Finds (plane_entries m ss) ss m) → (t : Bool) → protected_row r ≡ t
        → Finds (cond t (plane_entry b r ∷ plane_entries (b + plane_words r) ss) (plane_entries b ss)) (r ∷ ss) b
    go g true e =
        cons {r = r} {b = b} (λ _. rw (eq-eqb r.kind r.kind refl))
        (subst (λ (u : Bool). Finds (plane_entry b r ∷ plane_entries (b + plane_words r) ss) ss (b + cond u (plane_words r) 0)) (sym e)
        (finds_plane b r (plane_entries (b + plane_words r) ss) n (g (b + plane_words r))))
    go g false e =
        cons (λ y. absurd (true_false (sym y ∙ e)))
        (subst (λ (u : Bool). Finds (plane_entries b ss) ss (b + cond u (plane_words r) 0)) (sym e)
        (subst (Finds (plane_entries b ss) ss) (sym (add-zero b)) (g b)))

row_plane : (f : ℕ) → f < 8 → is_plane f ≡ false
row_plane f h = bit_high 3 f 3 h (omega arith)

finds_rows : (a : ℕ) (ss : List Row) (fs : List Entry) {rs : List Row} {b : ℕ} → RowsOK ss → Finds fs rs b → Finds (row_entries a ss ++ fs) rs b
unfolding row_entries
finds_rows a ss fs RowsOK.nil g = g
finds_rows a ss fs (RowsOK.cons {r = r} {rs = ts} k f n o) g =
    finds_row (row_entry a r) (row_entries (a + r.words) ts ++ fs) (row_plane r.flags f) (finds_rows (a + r.words) ts fs o g)

finds : (a b : ℕ) (rs : List Row) → RowsOK rs → Finds (row_entries a rs ++ plane_entries b rs) rs b
finds a b rs o = finds_rows a rs (plane_entries b rs) o (finds_planes rs b o)

-- ---- the visits of the directory

module _ (len : ℕ) (all : List Entry) where
  over_planes : (b : ℕ) (rs : List Row) → visits_over len all (plane_entries b rs) ≡ []
  unfolding plane_entries visits_over visit_of is_protected plane_entry bit
  over_planes b [] = refl
  over_planes b (r ∷ rs) = go (λ m. over_planes m rs) (protected_row r)
    where
      go : ((m : ℕ) → visits_over len all (plane_entries m rs) ≡ []) → (t : Bool)
          → visits_over len all (cond t (plane_entry b r ∷ plane_entries (b + plane_words r) rs) (plane_entries b rs)) ≡ []
      go f true = f (b + plane_words r)
      go f false = f b

  over_rows : EntriesOK len all → (a b : ℕ) (rs : List Row) → RowsOK rs → Finds all rs b → ((e : Entry) → In e (row_entries a rs) → In e all)
      → visits_over len all (row_entries a rs) ≡ visits_plan rs a b
  unfolding row_entries visits_over visits_plan visit_of is_protected
  over_rows ok a b rs RowsOK.nil g i = refl
  over_rows ok a b rs (RowsOK.cons {r = r} {rs = ss} k f n o) (cons t g) i =
      ap₂ (λ (x y : List Visit). x ++ y)
      (ap (λ (u : Bool). cond (not u && protected_row r) (visit_with (row_entry a r) (plane_of len all (row_entry a r))) []) (row_plane r.flags f)
      ∙ go (protected_row r) refl (i (row_entry a r) (now refl)))
      (over_rows ok (a + r.words) (b + cond (protected_row r) (plane_words r) 0) ss o g (λ e m. i e (next m)))
    where
      go : (u : Bool) → protected_row r ≡ u → In (row_entry a r) all
          → cond u (visit_with (row_entry a r) (plane_of len all (row_entry a r))) [] ≡ cond u (record { region = row_entry a r; plane = plane_entry b r } ∷ []) []
      go true e m = rw (plane_plain len all ok (row_entry a r) m, t e)
      go false e m = refl

pub plan_visits : (len a b : ℕ) (rs : List Row) → RowsOK rs → EntriesOK len (row_entries a rs ++ plane_entries b rs)
    → visits_over len (row_entries a rs ++ plane_entries b rs) (row_entries a rs ++ plane_entries b rs) ≡ visits_plan rs a b
plan_visits len a b rs o ok =
    let all = row_entries a rs ++ plane_entries b rs in
    visits_append len all (row_entries a rs) (plane_entries b rs)
    ∙ ap₂ (λ (x y : List Visit). x ++ y)
    (over_rows len all ok a b rs o (finds a b rs o) (λ e m. in_left (row_entries a rs) (plane_entries b rs) m)) (over_planes len all b rs)
    ∙ append-nil (visits_plan rs a b)

-- the words of a protected row are among them
pub plan_among : (before : List Row) (r : Row) (behind : List Row) → protected_row r ≡ true → (a b k : ℕ) → k < r.words
    → Among (a + row_words_lem before + k) (8 * (b + planes_words before) + k) (codewords_plan (before ++ (r ∷ behind)) a b)
unfolding codewords_plan row_words_lem planes_words
plan_among [] r behind t a b k h =
    rw (t, add-zero a, add-zero b)
    (among_left (codewords_from r.words a (8 * b)) (codewords_plan behind (a + r.words) (b + plane_words r)) (from_among r.words a (8 * b) k h))
plan_among (s ∷ before) r behind t a b k h =
    rw (sym (add_assoc a s.words (row_words_lem before)), sym (add_assoc b (cond (protected_row s) (plane_words s) 0) (planes_words before)))
    (among_right (cond (protected_row s) (codewords_from s.words a (8 * b)) []) (codewords_plan (before ++ (r ∷ behind)) (a + s.words) (b + cond (protected_row s) (plane_words s) 0))
    (plan_among before r behind t (a + s.words) (b + cond (protected_row s) (plane_words s) 0) k h))

-- ---- their check bytes

pub length_checks : (n : ℕ) (b : List ℕ) → length (checks n b) ≡ n
unfolding checks
length_checks zero b = refl
length_checks (suc n) b = ap suc (length_checks n (drop 8 b))

pub at_checks : (n : ℕ) (b : List ℕ) (k : ℕ) → k < n → at (checks n b) k ≡ check_of (read 8 b (8 * k))
unfolding checks
at_checks zero b k h = absurd (not-suc-le-zero h)
at_checks (suc n) b zero h = refl
at_checks (suc n) b (suc k) h =
    at_checks n (drop 8 b) k (le_of_suc-le-suc h)
    ∙ ap check_of (read_drop 8 8 b (8 * k) ∙ ap (read 8 b) (omega arith))

at_plane : (r : Row) (b : List ℕ) (k : ℕ) → k < r.words → at (plane_bytes r b) k ≡ check_of (read 8 b (8 * k))
unfolding plane_bytes
at_plane r b k h =
    at_left (checks r.words b) (replicate (8 * plane_words r - r.words) 0) r.words k (length_checks r.words b) h ∙ at_checks r.words b k h

pub length_plane : (r : Row) (b : List ℕ) → length (plane_bytes r b) ≡ 8 * plane_words r
unfolding plane_bytes
length_plane r b =
    let z = 8 * plane_words r - r.words in
    omega (arith, length-append (checks r.words b) (replicate z 0), length_checks r.words b, length-replicate {A = ℕ} z 0)

pub length_planes : (rs : List Row) (b : List ℕ) → length (planes_bytes rs b) ≡ 8 * planes_words rs
unfolding planes_bytes planes_words
length_planes [] b = refl
length_planes (r ∷ rs) b = go (protected_row r) (length_planes rs (drop (8 * r.words) b))
  where
    go : (t : Bool) → length (planes_bytes rs (drop (8 * r.words) b)) ≡ 8 * planes_words rs
        → length (cond t (plane_bytes r b) [] ++ planes_bytes rs (drop (8 * r.words) b)) ≡ 8 * (cond t (plane_words r) 0 + planes_words rs)
    go true e = omega (arith, length-append (plane_bytes r b) (planes_bytes rs (drop (8 * r.words) b)), length_plane r b)
    go false e = omega arith

-- an image that has the payload from word a on and the planes from word b on
pub checked : (x : List ℕ) (rs : List Row) (a b : ℕ) (pl : List ℕ)
    → ((j : ℕ) → j < 8 * row_words_lem rs → at x (8 * a + j) ≡ at pl j)
    → ((j : ℕ) → j < 8 * planes_words rs → at x (8 * b + j) ≡ at (planes_bytes rs pl) j)
    → (q c : ℕ) → Among q c (codewords_plan rs a b) → at x c ≡ check_of (word_at x q)
unfolding row_words_lem planes_words planes_bytes codewords_plan
checked x [] a b pl f g q c m = elim m [ ]
checked x (r ∷ rs) a b pl f g q c m =
    go (protected_row r) g (λ b' g' i. checked x rs (a + r.words) b' (drop (8 * r.words) pl) rest g' q c i)
    (among_append (cond (protected_row r) (codewords_from r.words a (8 * b)) []) (codewords_plan rs (a + r.words) (b + cond (protected_row r) (plane_words r) 0)) m)
  where
    rest : (j : ℕ) → j < 8 * row_words_lem rs → at x (8 * (a + r.words) + j) ≡ at (drop (8 * r.words) pl) j
    rest j h =
        let e : 8 * (a + r.words) + j ≡ 8 * a + (8 * r.words + j) = omega arith in
        ap (at x) e ∙ f (8 * r.words + j) (omega arith) ∙ sym (get_or-drop (8 * r.words) pl j 0)

    first : ((j : ℕ) → j < 8 * (plane_words r + planes_words rs) → at x (8 * b + j) ≡ at (plane_bytes r pl ++ planes_bytes rs (drop (8 * r.words) pl)) j)
        → Step r.words a (8 * b) q c → at x c ≡ check_of (word_at x q)
    first h s =
        let l : s.k < r.words = s.inside in
        ap (at x) s.check
        ∙ h s.k (omega arith)
        ∙ at_left (plane_bytes r pl) (planes_bytes rs (drop (8 * r.words) pl)) (8 * plane_words r) s.k (length_plane r pl) (omega arith)
        ∙ at_plane r pl s.k l
        ∙ ap check_of
        (read_ext 8 pl x (8 * s.k) (8 * q) (λ j i. sym (
        let e : 8 * q + j ≡ 8 * a + (8 * s.k + j) = omega (arith, s.word) in ap (at x) e ∙ f (8 * s.k + j) (omega arith))))

    go : (t : Bool) → ((j : ℕ) → j < 8 * (cond t (plane_words r) 0 + planes_words rs)
        → at x (8 * b + j) ≡ at (cond t (plane_bytes r pl) [] ++ planes_bytes rs (drop (8 * r.words) pl)) j)
        → ((b' : ℕ) → ((j : ℕ) → j < 8 * planes_words rs → at x (8 * b' + j) ≡ at (planes_bytes rs (drop (8 * r.words) pl)) j)
        → Among q c (codewords_plan rs (a + r.words) b') → at x c ≡ check_of (word_at x q))
        → Among q c (cond t (codewords_from r.words a (8 * b)) []) ⊎ Among q c (codewords_plan rs (a + r.words) (b + cond t (plane_words r) 0))
        → at x c ≡ check_of (word_at x q)
    go true h ih (inl i) = first h (among_from r.words a (8 * b) i)
    go true h ih (inr i) =
        ih (b + plane_words r)
        (λ j l. let e : 8 * (b + plane_words r) + j ≡ 8 * b + (8 * plane_words r + j) = omega arith in
        ap (at x) e ∙ h (8 * plane_words r + j) (omega arith)
        ∙ at_right (plane_bytes r pl) (planes_bytes rs (drop (8 * r.words) pl)) (8 * plane_words r) j (length_plane r pl)) i
    go false h ih (inl i) = elim i [ ]
    go false h ih (inr i) =
        ih (b + 0)
        (λ j l. let e : 8 * (b + 0) + j ≡ 8 * b + j = omega arith in ap (at x) e ∙ h j (omega arith)) i
