-- Entries as first and last words: what they meet is what the entries meet. Assumes nothing.
use mathlib.Core.Path.{◌≡◌, refl, sym, ap, ap₂, ◌∙◌}
use mathlib.Core.Bool.{Bool, true, false, not, ◌&&◌, ◌||◌, cond, or-true}
use mathlib.Core.List.{List}
use Rattle.std.specs.Prelude.{Option, None, Some, Ok}
use Prim.Native.Nat.{ℕ, zero, suc, ◌+◌, ◌-◌, ◌*◌, ◌^◌, ◌≤◌, ◌<◌, max, min}
use native.Mathlib.Nat.{add-zero, le-max_left, le-max_right}
use native.Mathlib.Decide.{dec_lt, ℕ_discrete}
use native.Mathlib.Omega.{arith}
use borrow.Author.Tests.{eq-eqb, ne_eqb, lt-ltb, le-ltb, le-leb, lt-leb}
use lib.Dec.{eqb, ltb, leb}
use lib.ListN.{length, take, drop, set}
use lib.Seq.{get_or-set_same, get_or-set_other}
use Rattle.model.specs.Bytes.{at}
use Rattle.model.specs.Layout.{Entry, header_length}
use Rattle.model.specs.Views.{nth, entries_for, region_at}
use Rattle.model.specs.Mend.{meets, meets_from, in_header}
use Rattle.layout.specs.declared.Region.{Region}
use Rattle.layout.specs.Regions.{as_entry, region_of}
use Rattle.view.specs.Answers.{found_as}
use Rattle.view.proofs.AnswersLaw.{found_some}
use Rattle.lemmas.specs.Steps.{is_some}
use Rattle.model.proofs.WalkLaw.{nth_there}
use Rattle.overlap.proofs.ApartLaw.{empty_right, starts_past, meets_else, lies_behind}
use Rattle.overlap.specs.declared.spans.SpanTable.{SpanTable}
use mir.Val.{bool_byte}
use Rattle.overlap.specs.Answers.{overlap_as}
use Rattle.overlap.specs.Spans.{last_word, overlaps_from, SpanOf, Holds}

-- ---- the last word

pub last_none : (e : Entry) → e.words ≡ 0 → last_word e ≡ 0
unfolding last_word
last_none e h = rw (eq-eqb e.words 0 h)

module _ (e : Entry) (h : 0 < e.words) where
  some_words : eqb e.words 0 ≡ false
  some_words = ne_eqb e.words 0 (λ z. omega arith)

  last_is : e.offset + e.words - 1 < 4294967295 → last_word e ≡ e.offset + e.words - 1
  unfolding last_word
  last_is l = rw (some_words, lt-ltb (e.offset + e.words - 1) 4294967295 l)

  last_large : 4294967295 ≤ e.offset + e.words - 1 → last_word e ≡ 4294967295
  unfolding last_word
  last_large l = rw (some_words, le-ltb (e.offset + e.words - 1) 4294967295 l)

  pub last_min : last_word e ≡ min (e.offset + e.words - 1) 4294967295
  last_min = go (dec_lt (e.offset + e.words - 1) 4294967295)
    where
      go : Dec (e.offset + e.words - 1 < 4294967295) → last_word e ≡ min (e.offset + e.words - 1) 4294967295
      go (yes s) = omega (arith, last_is s)
      go (no s) = omega (arith, last_large (omega arith))

  -- a number of 32 bits lies before the region's end if it is no larger
  before_end : (a : ℕ) → a < 2 ^ 32 → leb a (last_word e) ≡ ltb a (e.offset + e.words)
  before_end a l = go (dec_lt (e.offset + e.words - 1) 4294967295) (dec_lt a (e.offset + e.words))
    where
      go : Dec (e.offset + e.words - 1 < 4294967295) → Dec (a < e.offset + e.words) → leb a (last_word e) ≡ ltb a (e.offset + e.words)
      go (yes s) (yes b) = rw (last_is s, lt-ltb a (e.offset + e.words) b) (le-leb a (e.offset + e.words - 1) (omega arith))
      go (yes s) (no n) = rw (last_is s, le-ltb a (e.offset + e.words) (omega arith)) (lt-leb a (e.offset + e.words - 1) (omega arith))
      go (no s) (yes b) = rw (last_large (omega arith), lt-ltb a (e.offset + e.words) b) (le-leb a 4294967295 (omega arith))
      go (no s) (no n) = absurd (omega arith)

-- ---- two entries

module _ (e : Entry) (h : 0 < e.words) (o : 0 < e.offset) (l : e.offset < 2 ^ 32) where
  one_touch : (f : Entry) → f.offset < 2 ^ 32 → leb e.offset (last_word f) && leb f.offset (last_word e) ≡ meets e f
  one_touch f k = go (ℕ_discrete f.words 0) (dec_lt e.offset (f.offset + f.words))
    where
      go : Dec (f.words ≡ 0) → Dec (e.offset < f.offset + f.words) → leb e.offset (last_word f) && leb f.offset (last_word e) ≡ meets e f
      go (yes z) d = rw (last_none f z, lt-leb e.offset 0 o) (sym (empty_right e f z))
      go (no n) (yes d) =
          let g : 0 < f.words = omega arith in
          rw (before_end f g e.offset l, lt-ltb e.offset (f.offset + f.words) d, before_end e h f.offset k) (sym (meets_else e f h g d))
      go (no n) (no d) =
          let g : 0 < f.words = omega arith in
          let s : f.offset + f.words ≤ e.offset = omega arith in
          rw (before_end f g e.offset l, le-ltb e.offset (f.offset + f.words) s) (sym (starts_past e f s))

  -- ---- an entry and those before it

  pub overlaps_are : (es : List Entry) (t : SpanTable) (i high : ℕ) → Holds es i t high → (j k : ℕ) → j + k ≤ i
      → overlaps_from e.offset (last_word e) t.first t.last j k ≡ meets_from j e (take k (drop j es))
  unfolding overlaps_from meets_from
  overlaps_are es t i high s j zero b = refl
  overlaps_are es t i high s j (suc k) b =
      let p = s.each j (omega arith) in
      ap₂ (λ (b : Bool) (o : Option ℕ). cond b (Some j) o)
      (ap₂ (λ (m n : ℕ). leb e.offset m && leb n (last_word e)) p.last p.first ∙ one_touch p.entry p.small)
      (overlaps_are es t i high s (suc j) k (omega arith))
      ∙ ap (λ (l : List Entry). meets_from j e (take (suc k) l)) (sym (nth_there es j p.entry p.there))

-- an entry that starts past all of them
past_none : (e : Entry) (es : List Entry) (t : SpanTable) (i high : ℕ) → Holds es i t high → high ≤ e.offset → (j k : ℕ) → j + k ≤ i
    → None ≡ meets_from j e (take k (drop j es))
unfolding meets_from
past_none e es t i high s h j zero b = refl
past_none e es t i high s h j (suc k) b =
    let p = s.each j (omega arith) in
    past_none e es t i high s h (suc j) k (omega arith)
    ∙ sym (ap (λ (l : List Entry). meets_from j e (take (suc k) l)) (nth_there es j p.entry p.there)
    ∙ ap (λ (b : Bool). cond b (Some j) (meets_from (suc j) e (take k (drop (suc j) es)))) (starts_past e p.entry (omega (arith, p.below))))

-- what an entry lies on, that starts behind the header
module _ (n : ℕ) (e : Entry) (es : List Entry) (t : SpanTable) (i high : ℕ) (s : Holds es i t high) (h : header_length n ≤ 8 * e.offset) where
  pub lies_past : high ≤ e.offset → Ok tt ≡ overlap_as i (in_header n e) (meets_from 0 e (take i es))
  lies_past l = lies_behind n e (take i es) i None h (past_none e es t i high s l 0 i (omega arith))

  pub lies_there : 0 < e.words → e.offset < 2 ^ 32 → (o : Option ℕ) → o ≡ overlaps_from e.offset (last_word e) t.first t.last 0 i
      → overlap_as i false o ≡ overlap_as i (in_header n e) (meets_from 0 e (take i es))
  lies_there w l o f = lies_behind n e (take i es) i o h (f ∙ overlaps_are e w (omega arith) l es t i high s 0 i (omega arith))

pub is_none : (o : Option ℕ) (t : Bool) → t ≡ false → t ≡ is_some o → None ≡ o
is_none None t f h = refl
is_none (Some j) t f h = let z : true ≡ false = sym h ∙ f in cc

-- ---- what is left of n entries at j

module _ (a b : ℕ) (xs ys : List ℕ) (j n : ℕ) (l : j < n) (r : Bool) (f : r ≡ leb a (at ys j) && leb (at xs j) b) where
  opened : overlaps_from a b xs ys j (n - j) ≡ cond r (Some j) (overlaps_from a b xs ys (j + 1) (n - (j + 1)))
  unfolding overlaps_from
  opened =
      let e : n - j ≡ suc (n - (j + 1)) = omega arith in
      let d : suc j ≡ j + 1 = omega arith in
      rw (e, d, f)

  pub lowest_here : r ≡ true → overlaps_from a b xs ys j (n - j) ≡ Some j
  lowest_here h = opened ∙ ap (λ (t : Bool). cond t (Some j) (overlaps_from a b xs ys (j + 1) (n - (j + 1)))) h

  pub lowest_next : r ≡ false → overlaps_from a b xs ys (j + 1) (n - (j + 1)) ≡ overlaps_from a b xs ys j (n - j)
  lowest_next h = sym (opened ∙ ap (λ (t : Bool). cond t (Some j) (overlaps_from a b xs ys (j + 1) (n - (j + 1)))) h)

  -- counted as hits
  pub any_next : (h : ℕ) → not (eqb (h + bool_byte r) 0) || is_some (overlaps_from a b xs ys (j + 1) (n - (j + 1))) ≡ not (eqb h 0) || is_some (overlaps_from a b xs ys j (n - j))
  any_next h =
      go r (overlaps_from a b xs ys (j + 1) (n - (j + 1)))
      ∙ ap (λ (o : Option ℕ). not (eqb h 0) || is_some o) (sym opened)
    where
      go : (t : Bool) (o : Option ℕ) → not (eqb (h + bool_byte t) 0) || is_some o ≡ not (eqb h 0) || is_some (cond t (Some j) o)
      go true o = rw (ne_eqb (h + 1) 0 (λ z. omega arith)) (sym (or-true (not (eqb h 0))))
      go false o = rw (add-zero h)

pub none_left : (a b : ℕ) (xs ys : List ℕ) (j n : ℕ) → n ≤ j → overlaps_from a b xs ys j (n - j) ≡ None
unfolding overlaps_from
none_left a b xs ys j n h = let e : n - j ≡ 0 = omega arith in rw e

pub hit_small : (t : Bool) → bool_byte t ≤ 1
hit_small true = omega arith
hit_small false = omega arith

-- ---- one entry more

module _ (es : List Entry) (t : SpanTable) (i : ℕ) (high : ℕ) (s : Holds es i t high) (h : i < length t.first) (g : i < length t.last) where
  module _ (e : Entry) (k : nth i es ≡ Some e) (l : e.offset < 2 ^ 32) (top : ℕ) (a : e.offset + e.words ≤ top) (b : high ≤ top) where
    each_next : (u : SpanTable) → u.first ≡ set t.first i e.offset → u.last ≡ set t.last i (last_word e) → (j : ℕ) → Dec (j ≡ i) → j < suc i → SpanOf es u top j
    each_next u f w j (yes d) m =
        record {
          entry = e;
          there = ap (λ (m : ℕ). nth m es) d ∙ k;
          first = ap₂ at f d ∙ get_or-set_same t.first i e.offset 0 h;
          last = ap₂ at w d ∙ get_or-set_same t.last i (last_word e) 0 g;
          small = l;
          below = a;
        }
    each_next u f w j (no d) m =
        let p = s.each j (omega arith) in
        record {
          entry = p.entry;
          there = p.there;
          first = ap (λ (xs : List ℕ). at xs j) f ∙ get_or-set_other t.first i j e.offset 0 d ∙ p.first;
          last = ap (λ (xs : List ℕ). at xs j) w ∙ get_or-set_other t.last i j (last_word e) 0 d ∙ p.last;
          small = p.small;
          below = omega (arith, p.below);
        }

  -- r is what was found at entry i of an image
  pub spans_next : (c : ℕ) (x : List ℕ) → es ≡ entries_for c x → (r : Option Region) → r ≡ found_as (region_at c x i) → (p : Region) → r ≡ Some p
      → p.word_offset < 2 ^ 32 → (u : SpanTable) (b : ℕ) → u.first ≡ set t.first i p.word_offset → u.last ≡ set t.last i b → b ≡ last_word (as_entry p)
      → (top : ℕ) → top ≡ max (p.word_offset + p.word_length) high
      → Holds es (suc i) u top
  unfolding region_at
  spans_next c x q r f p v l u b w₁ w₂ w top m =
      let k = found_some (nth i (entries_for c x)) p (sym v ∙ f) in
      let o = ap (λ (z : Region). z.word_offset) k.2 in
      let d = ap (λ (z : Region). z.word_offset + z.word_length) k.2 in
      let m₁ = le-max_left (p.word_offset + p.word_length) high in
      let m₂ = le-max_right (p.word_offset + p.word_length) high in
      let y : last_word (as_entry p) ≡ last_word k.0 = ap (λ (z : Region). last_word (as_entry z)) k.2 ∙ same_last k.0 in
      record {
        each = λ j h.
            each_next k.0 (ap (nth i) q ∙ k.1) (omega (arith, o)) top (omega arith) (omega arith) u (w₁ ∙ ap (set t.first i) o)
            (w₂ ∙ ap (set t.last i) (w ∙ y)) j (ℕ_discrete j i) h;
      }
    where
      same_last : (e : Entry) → last_word (as_entry (region_of e)) ≡ last_word e
      same_last e = unfold last_word in refl
