-- What a plan without a refusal satisfies, and that its directory is packed: parse accepts it and it is laid apart. Assumes nothing.
use mathlib.Core.Path.{◌≡◌, refl, sym, ap, ◌∙◌, subst}
use mathlib.Core.Bool.{Bool, true, false, not, ◌&&◌, ◌||◌, cond}
use mathlib.Core.List.{List, [], ◌∷◌, ◌++◌}
use Prim.Native.Nat.{ℕ, suc, ◌+◌, ◌*◌, ◌≤◌, ◌<◌}
use native.Mathlib.Nat.{add-zero, add_assoc}
use native.Mathlib.Omega.{arith}
use borrow.Author.Tests.{ltb-false, le-ltb, eqb-true, eqb-false, eq-eqb, ne_eqb, not-false}
use lib.Dec.{eqb, ltb}
use lib.ListN.{length}
use Rattle.model.specs.Refusals.{Verdict, fine, refuse, ◌then◌, refuse_if}
use Rattle.model.specs.Layout.{Entry, header_length}
use Rattle.model.specs.Parse.{among}
use Rattle.model.specs.Mend.{meets, in_header}
use Rattle.lemmas.proofs.ApartVerdict.{meets_any_lem, apart_verdict}
use Rattle.model.specs.Writer.{Row, protected_row, plane_words, row_entry, row_entries, plane_entry, plane_entries, row_words_lem, planes_words, regions, first_word, plan_directory, plan_image, kind_among, rows_verdict, image_length, plan_verdict, image, write_as, write}
use Rattle.lemmas.proofs.VerdictLaw.{true_false, passed, passed_both, passes, or_left, or_right, or_none, or_true, and_false}
use Rattle.lemmas.proofs.EntriesLaw.{EntriesOK, among_append}

-- ---- rows

pub data RowsOK : List Row → Type 0 where
  nil : RowsOK []
  cons : {r : Row} {rs : List Row} → r.kind < 0x8000 → r.flags < 8 → kind_among r.kind rs ≡ false → RowsOK rs → RowsOK (r ∷ rs)

pub rows_ok : (rs : List Row) (i : ℕ) (earlier : List Row) → rows_verdict i earlier rs ≡ fine
    → RowsOK rs × ((k : ℕ) → kind_among k earlier ≡ true → kind_among k rs ≡ false)
unfolding rows_verdict kind_among
rows_ok [] i earlier e = (nil, λ k h. refl)
rows_ok (r ∷ rs) i earlier e =
    let a = passed (ltb 0x7FFF r.kind || ltb 7 r.flags) 14 i (refuse_if (kind_among r.kind earlier) 8 r.kind then rows_verdict (suc i) (r ∷ earlier) rs) e in
    let b = passed (kind_among r.kind earlier) 8 r.kind (rows_verdict (suc i) (r ∷ earlier) rs) a.1 in
    let c = rows_ok rs (suc i) (r ∷ earlier) b.1 in
    let k : r.kind ≤ 0x7FFF = ltb-false 0x7FFF r.kind (or_left (ltb 0x7FFF r.kind) (ltb 7 r.flags) a.0) in
    let f : r.flags ≤ 7 = ltb-false 7 r.flags (or_right (ltb 0x7FFF r.kind) (ltb 7 r.flags) a.0) in
    let same : eqb r.kind r.kind ≡ true = eq-eqb r.kind r.kind refl in (
      cons {r = r} {rs = rs} (omega arith) (omega arith) (c.1 r.kind (ap (λ (t : Bool). t || kind_among r.kind earlier) same)) c.0,
      λ k h. or_none (eqb r.kind k) (kind_among k rs) (other r earlier k b.0 h) (c.1 k (or_true (eqb r.kind k) (kind_among k earlier) h)),
    )
  where
    other : (s : Row) (es : List Row) (k : ℕ) → kind_among s.kind es ≡ false → kind_among k es ≡ true → eqb s.kind k ≡ false
    other s es k f t = ne_eqb s.kind k (λ g. true_false (sym t ∙ ap (λ (m : ℕ). kind_among m es) (sym g) ∙ f))

pub record PlanOK (rs : List Row) (payload : List ℕ) : Type 0 where
  pub rows : RowsOK rs
  pub few : regions rs ≤ 1024
  pub full : length payload ≡ 8 * row_words_lem rs
  pub small : image_length rs ≤ 8388608

pub plan_ok : (rs : List Row) (payload : List ℕ) (room : ℕ) → plan_verdict rs payload room ≡ fine → PlanOK rs payload
unfolding plan_verdict
plan_ok rs payload room e =
    let u = refuse_if (ltb room (image_length rs)) 13 0 in
    let v = refuse_if (ltb 8388608 (image_length rs)) 11 0 then u in
    let w = refuse_if (not (eqb (length payload) (8 * row_words_lem rs))) 14 (length rs) then v in
    let a = passed_both (rows_verdict 0 [] rs) (refuse_if (ltb 1024 (regions rs)) 6 (regions rs) then w) e in
    let b = passed (ltb 1024 (regions rs)) 6 (regions rs) w a.1 in
    let c = passed (not (eqb (length payload) (8 * row_words_lem rs))) 14 (length rs) v b.1 in
    let d = passed (ltb 8388608 (image_length rs)) 11 0 u c.1 in
    record {
      rows = (rows_ok rs 0 [] a.0).0;
      few = ltb-false 1024 (regions rs) b.0;
      full = eqb-true (length payload) (8 * row_words_lem rs) (not-false (eqb (length payload) (8 * row_words_lem rs)) c.0);
      small = ltb-false 8388608 (image_length rs) d.0;
    }

-- ---- the writer's answer taken apart

pub record Wrote (rs : List Row) (payload w : List ℕ) : Type 0 where
  pub plan : PlanOK rs payload
  pub is : plan_image rs payload ≡ w

pub wrote : (rs : List Row) (payload : List ℕ) (room : ℕ) (w : List ℕ) → write rs payload room ≡ image w → Wrote rs payload w
unfolding write
wrote rs payload room w h = go (plan_verdict rs payload room) refl h
  where
    go : (v : Verdict) → plan_verdict rs payload room ≡ v → write_as v (plan_image rs payload) ≡ image w → Wrote rs payload w
    go fine e g = record { plan = plan_ok rs payload room e; is = cc }
    go (refuse n d) e g = let z : ◌≡◌ {A = ℕ} 0 1 = cc in absurd (omega arith)

-- ---- a directory packed from word a up to word b

pub data Packed : ℕ → List Entry → ℕ → Type 0 where
  done : {a : ℕ} → Packed a [] a
  next : {e : Entry} {es : List Entry} {b : ℕ} → Packed (e.offset + e.words) es b → Packed e.offset (e ∷ es) b

pub packed_append : {a b c : ℕ} {es fs : List Entry} → Packed a es b → Packed b fs c → Packed a (es ++ fs) c
packed_append done q = q
packed_append (next p) q = next (packed_append p q)

pub packed_le : {a b : ℕ} {es : List Entry} → Packed a es b → a ≤ b
packed_le done = omega arith
packed_le (next p) = let h = packed_le p in omega arith

pub packed_rows : (a : ℕ) (rs : List Row) → Packed a (row_entries a rs) (a + row_words_lem rs)
unfolding row_entries row_words_lem
packed_rows a [] = subst (Packed a []) (sym (add-zero a)) done
packed_rows a (r ∷ rs) =
    next (subst (Packed (a + r.words) (row_entries (a + r.words) rs)) (add_assoc a r.words (row_words_lem rs)) (packed_rows (a + r.words) rs))

pub packed_planes : (a : ℕ) (rs : List Row) → Packed a (plane_entries a rs) (a + planes_words rs)
unfolding plane_entries planes_words plane_entry
packed_planes a [] = subst (Packed a []) (sym (add-zero a)) done
packed_planes a (r ∷ rs) = go (λ m. packed_planes m rs) (protected_row r)
  where
    go : ((m : ℕ) → Packed m (plane_entries m rs) (m + planes_words rs)) → (t : Bool)
        → Packed a (cond t (plane_entry a r ∷ plane_entries (a + plane_words r) rs) (plane_entries a rs)) (a + (cond t (plane_words r) 0 + planes_words rs))
    go f true = next (subst (Packed (a + plane_words r) (plane_entries (a + plane_words r) rs)) (add_assoc a (plane_words r) (planes_words rs)) (f (a + plane_words r)))
    go f false = let m : a + planes_words rs ≡ a + (0 + planes_words rs) = omega arith in subst (Packed a (plane_entries a rs)) m (f a)

-- ---- parse's check of the entries

among_rows : (k a : ℕ) (rs : List Row) → kind_among k rs ≡ false → among k (row_entries a rs) ≡ false
unfolding among row_entries kind_among
among_rows k a [] h = refl
among_rows k a (r ∷ rs) h =
    or_none (eqb r.kind k) (among k (row_entries (a + r.words) rs)) (or_left (eqb r.kind k) (kind_among k rs) h)
    (among_rows k (a + r.words) rs (or_right (eqb r.kind k) (kind_among k rs) h))

-- a kind below 0x8000 is no plane's
low_plane : (k a : ℕ) (rs : List Row) → k < 0x8000 → among k (plane_entries a rs) ≡ false
unfolding among plane_entries plane_entry
low_plane k a [] h = refl
low_plane k a (r ∷ rs) h = go (λ m. low_plane k m rs h) (protected_row r)
  where
    go : ((m : ℕ) → among k (plane_entries m rs) ≡ false) → (t : Bool) → among k (cond t (plane_entry a r ∷ plane_entries (a + plane_words r) rs) (plane_entries a rs)) ≡ false
    go f true = or_none (eqb (0x8000 + r.kind) k) (among k (plane_entries (a + plane_words r) rs)) (ne_eqb (0x8000 + r.kind) k (λ e. omega arith)) (f (a + plane_words r))
    go f false = f a

other_plane : (k a : ℕ) (rs : List Row) → kind_among k rs ≡ false → among (0x8000 + k) (plane_entries a rs) ≡ false
unfolding among plane_entries plane_entry kind_among
other_plane k a [] h = refl
other_plane k a (r ∷ rs) h = go (λ m. other_plane k m rs (or_right (eqb r.kind k) (kind_among k rs) h)) (protected_row r)
  where
    go : ((m : ℕ) → among (0x8000 + k) (plane_entries m rs) ≡ false) → (t : Bool)
        → among (0x8000 + k) (cond t (plane_entry a r ∷ plane_entries (a + plane_words r) rs) (plane_entries a rs)) ≡ false
    go f true =
        or_none (eqb (0x8000 + r.kind) (0x8000 + k)) (among (0x8000 + k) (plane_entries (a + plane_words r) rs))
        (ne_eqb (0x8000 + r.kind) (0x8000 + k) (λ e. eqb-false r.kind k (or_left (eqb r.kind k) (kind_among k rs) h) (omega arith)))
        (f (a + plane_words r))
    go f false = f a

planes_ok : (len a : ℕ) (rs : List Row) → RowsOK rs → 8 * (a + planes_words rs) ≤ len → EntriesOK len (plane_entries a rs)
unfolding plane_entries planes_words plane_entry
planes_ok len a rs RowsOK.nil h = EntriesOK.nil
planes_ok len a rs (RowsOK.cons {r = r} {rs = ss} k f n o) h = go (λ m l. planes_ok len m ss o l) (protected_row r) h
  where
    go : ((m : ℕ) → 8 * (m + planes_words ss) ≤ len → EntriesOK len (plane_entries m ss)) → (t : Bool)
        → 8 * (a + (cond t (plane_words r) 0 + planes_words ss)) ≤ len
        → EntriesOK len (cond t (plane_entry a r ∷ plane_entries (a + plane_words r) ss) (plane_entries a ss))
    go g true l =
        EntriesOK.cons {e = plane_entry a r} {es = plane_entries (a + plane_words r) ss} (omega arith)
        (other_plane r.kind (a + plane_words r) ss n) (g (a + plane_words r) (omega arith))
    go g false l = g a (omega arith)

rows_entries_ok : (len a : ℕ) (rs : List Row) (fs : List Entry) → RowsOK rs → 8 * (a + row_words_lem rs) ≤ len
    → ((k : ℕ) → k < 0x8000 → among k fs ≡ false) → EntriesOK len fs → EntriesOK len (row_entries a rs ++ fs)
unfolding row_entries row_words_lem
rows_entries_ok len a rs fs RowsOK.nil h z o = o
rows_entries_ok len a rs fs (RowsOK.cons {r = r} {rs = ss} k f n s) h z o =
    EntriesOK.cons {e = row_entry a r} {es = row_entries (a + r.words) ss ++ fs}
    (omega arith)
    (among_append r.kind (row_entries (a + r.words) ss) fs (among_rows r.kind (a + r.words) ss n) (z r.kind k))
    (rows_entries_ok len (a + r.words) ss fs s (omega arith) z o)

pub directory_ok : (len : ℕ) (rs : List Row) → RowsOK rs → image_length rs ≤ len → EntriesOK len (plan_directory rs)
unfolding plan_directory image_length
directory_ok len rs o h =
    rows_entries_ok len (first_word rs) rs (plane_entries (first_word rs + row_words_lem rs) rs) o (omega arith)
    (λ k l. low_plane k (first_word rs + row_words_lem rs) rs l)
    (planes_ok len (first_word rs + row_words_lem rs) rs o (omega arith))

-- ---- a packed directory is laid apart

pub data Before (a : ℕ) : List Entry → Type 0 where
  nil : Before a []
  cons : {e : Entry} {es : List Entry} → e.offset + e.words ≤ a → Before a es → Before a (e ∷ es)

before_more : {a b : ℕ} {es : List Entry} → a ≤ b → Before a es → Before b es
before_more h nil = nil
before_more h (cons {e = e} {es = es} l r) = cons {e = e} {es = es} (omega arith) (before_more h r)

meets_none : (e : Entry) (fs : List Entry) → Before e.offset fs → meets_any_lem e fs ≡ false
unfolding meets_any_lem meets
meets_none e fs nil = refl
meets_none e fs (cons {e = f} {es = gs} l r) =
    or_none ((ltb 0 e.words && ltb 0 f.words) && (ltb e.offset (f.offset + f.words) && ltb f.offset (e.offset + e.words))) (meets_any_lem e gs)
    (and_false (ltb 0 e.words && ltb 0 f.words) (ltb e.offset (f.offset + f.words) && ltb f.offset (e.offset + e.words))
    (ap (λ (t : Bool). t && ltb f.offset (e.offset + e.words)) (le-ltb e.offset (f.offset + f.words) l)))
    (meets_none e gs r)

pub packed_apart : (n i : ℕ) {a b : ℕ} {es : List Entry} (earlier : List Entry) → header_length n ≤ 8 * a → Packed a es b → Before a earlier
    → apart_verdict n i earlier es ≡ fine
unfolding apart_verdict in_header
packed_apart n i earlier h done f = refl
packed_apart n i earlier h (next {e = e} {es = es} p) f =
    passes (in_header n e || meets_any_lem e earlier) 12 i (apart_verdict n (suc i) (e ∷ earlier) es)
    (or_none (ltb 0 e.words && ltb (8 * e.offset) (header_length n)) (meets_any_lem e earlier)
    (and_false (ltb 0 e.words) (ltb (8 * e.offset) (header_length n)) (le-ltb (8 * e.offset) (header_length n) h)) (meets_none e earlier f))
    (packed_apart n (suc i) (e ∷ earlier) (omega arith) p (cons (omega arith) (before_more (omega arith) f)))
