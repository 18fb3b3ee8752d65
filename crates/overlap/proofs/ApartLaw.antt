-- Where regions lie: what one entry says of the placement. Assumes nothing.
use mathlib.Core.Path.{◌≡◌, refl, sym, ap, ap₂, ◌∙◌}
use mathlib.Core.Bool.{Bool, true, false, ◌&&◌, cond}
use mathlib.Core.List.{List, [], ◌∷◌, ◌++◌}
use Rattle.std.specs.Prelude.{Option, None, Some, Result, Ok, Err}
use Prim.Native.Nat.{ℕ, zero, suc, ◌+◌, ◌*◌, ◌≤◌, ◌<◌}
use native.Mathlib.Omega.{arith}
use borrow.Author.Tests.{lt-ltb, le-ltb}
use lib.Dec.{ltb}
use lib.ListN.{length, take, drop, drop_of_length-le}
use Rattle.model.specs.Layout.{Entry, header_length}
use Rattle.model.specs.Views.{nth, entries_for, region_at}
use Rattle.model.specs.Parse.{Header}
use Rattle.model.specs.Mend.{meets, meets_from, in_header, Placement, placed_apart, placement_as, placement_from}
use Rattle.layout.specs.declared.Region.{Region}
use Rattle.layout.specs.Regions.{as_entry, region_of}
use Rattle.model.proofs.WalkLaw.{nth_gone, nth_there}
use Rattle.view.specs.Answers.{found_as}
use Rattle.view.proofs.AnswersLaw.{found_some, found_none}
use Rattle.view.proofs.EntriesForLaw.{length_entries_for}
use Rattle.lemmas.proofs.VerdictLaw.{and_false}
use Rattle.overlap.specs.declared.Misplaced.{Misplaced}
use Rattle.overlap.specs.declared.Misplaced.TheVariants.{OnHeader, OnRegion}
use Rattle.overlap.specs.Answers.{as_placement, overlap_as}

-- ---- two regions

module _ (e f : Entry) where
  pub empty_left : e.words ≡ 0 → meets e f ≡ false
  unfolding meets
  empty_left h = rw (le-ltb 0 e.words (omega arith))

  pub empty_right : f.words ≡ 0 → meets e f ≡ false
  unfolding meets
  empty_right h = rw (le-ltb 0 f.words (omega arith), and_false (ltb 0 e.words) false refl)

  pub starts_past : f.offset + f.words ≤ e.offset → meets e f ≡ false
  unfolding meets
  starts_past h = rw (le-ltb e.offset (f.offset + f.words) h) (and_false (ltb 0 e.words && ltb 0 f.words) false refl)

  pub meets_else : 0 < e.words → 0 < f.words → e.offset < f.offset + f.words → meets e f ≡ ltb f.offset (e.offset + e.words)
  unfolding meets
  meets_else a b c = rw (lt-ltb 0 e.words a, lt-ltb 0 f.words b, lt-ltb e.offset (f.offset + f.words) c)

-- ---- an entry that has no bytes, and one against the header

empty_none : (j : ℕ) (e : Entry) (es : List Entry) → e.words ≡ 0 → meets_from j e es ≡ None
unfolding meets_from
empty_none j e [] h = refl
empty_none j e (f ∷ es) h = rw (empty_left e f h) (empty_none (suc j) e es h)

empty_outside : (n : ℕ) (e : Entry) → e.words ≡ 0 → in_header n e ≡ false
unfolding in_header
empty_outside n e h = rw (le-ltb 0 e.words (omega arith))

inside : (n : ℕ) (e : Entry) → 0 < e.words → 8 * e.offset < header_length n → in_header n e ≡ true
unfolding in_header
inside n e a b = rw (lt-ltb 0 e.words a, lt-ltb (8 * e.offset) (header_length n) b)

outside : (n : ℕ) (e : Entry) → header_length n ≤ 8 * e.offset → in_header n e ≡ false
unfolding in_header
outside n e h = rw (le-ltb (8 * e.offset) (header_length n) h) (and_false (ltb 0 e.words) false refl)

-- what it lies on, of those before it
module _ (n : ℕ) (e : Entry) (es : List Entry) (i : ℕ) where
  pub lies_empty : e.words ≡ 0 → Ok tt ≡ overlap_as i (in_header n e) (meets_from 0 e es)
  lies_empty h = rw (empty_outside n e h, empty_none 0 e es h)

  pub lies_inside : 0 < e.words → 8 * e.offset < header_length n → Err (OnHeader i) ≡ overlap_as i (in_header n e) (meets_from 0 e es)
  lies_inside a b = rw (inside n e a b)

  pub lies_behind : (o : Option ℕ) → header_length n ≤ 8 * e.offset → o ≡ meets_from 0 e es → overlap_as i false o ≡ overlap_as i (in_header n e) (meets_from 0 e es)
  lies_behind o h g = ap₂ (overlap_as i) (sym (outside n e h)) g

-- ---- the placement, entry by entry

-- what is left to check at entry i
unfoldable pub left_from : Header → List Entry → ℕ → Placement
left_from h all i = placement_from h i (take i all) (drop i all)

pub left_start : (h : Header) (all : List Entry) → left_from h all 0 ≡ placement_from h 0 [] all
unfolding left_from
left_start h all = refl

take_next : (es : List Entry) (i : ℕ) (e : Entry) → nth i es ≡ Some e → take i es ++ (e ∷ []) ≡ take (suc i) es
unfolding nth
take_next [] i e h = cc
take_next (f ∷ es) zero e h = cc
take_next (f ∷ es) (suc i) e h = ap (λ (l : List Entry). f ∷ l) (take_next es i e h)

same_from : (j : ℕ) (e : Entry) (es : List Entry) → meets_from j (as_entry (region_of e)) es ≡ meets_from j e es
unfolding meets_from meets
same_from j e [] = refl
same_from j e (k ∷ es) = ap (cond (meets e k) (Some j)) (same_from (suc j) e es)

lies_on : (t : Bool) (o : Option ℕ) (i : ℕ) (p : Placement) (m : Misplaced) → Err m ≡ overlap_as i t o → placement_as t o i p ≡ as_placement (Err m)
lies_on true o i p m e = let f : m ≡ OnHeader i = cc in ap (λ (k : Misplaced). as_placement (Err k)) (sym f)
lies_on false (Some j) i p m e = let f : m ≡ OnRegion i j = cc in ap (λ (k : Misplaced). as_placement (Err k)) (sym f)
lies_on false None i p m e = cc

lies_on_none : (t : Bool) (o : Option ℕ) (i : ℕ) (p : Placement) → Ok tt ≡ overlap_as i t o → placement_as t o i p ≡ p
lies_on_none true o i p e = cc
lies_on_none false (Some j) i p e = cc
lies_on_none false None i p e = refl

-- at entry i of an image with a header h: r is what is found there
module _ (h : Header) (x : List ℕ) (i : ℕ) (r : Option Region) (f : r ≡ found_as (region_at h.regions x i)) where
  pub left_gone : r ≡ None → left_from h (entries_for h.regions x) i ≡ placed_apart h
  unfolding left_from placement_from region_at
  left_gone g = ap (placement_from h i (take i (entries_for h.regions x))) (nth_gone (entries_for h.regions x) i (found_none (nth i (entries_for h.regions x)) (sym g ∙ f)))

  module _ (p : Region) (g : r ≡ Some p) (o : Result Unit Misplaced) (l : o ≡ overlap_as i (in_header h.regions (as_entry p)) (meets_from 0 (as_entry p) (take i (entries_for h.regions x)))) where
    entry : (e : Entry) × (nth i (entries_for h.regions x) ≡ Some e) × (p ≡ region_of e)
    unfolding region_at
    entry = found_some (nth i (entries_for h.regions x)) p (sym g ∙ f)

    abbrev in_header_lem : Bool
    in_header_lem = in_header h.regions entry.0

    abbrev met : Option ℕ
    met = meets_from 0 entry.0 (take i (entries_for h.regions x))

    abbrev behind : Placement
    behind = left_from h (entries_for h.regions x) (suc i)

    opened : left_from h (entries_for h.regions x) i ≡ placement_as in_header_lem met i behind
    unfolding left_from placement_from
    opened =
        let es = entries_for h.regions x in
        ap (placement_from h i (take i es)) (nth_there es i entry.0 entry.1)
        ∙ ap (λ (k : List Entry). placement_as in_header_lem met i (placement_from h (suc i) k (drop (suc i) es)))
        (take_next es i entry.0 entry.1)

    lies : o ≡ overlap_as i in_header_lem met
    unfolding in_header
    lies =
        let es = entries_for h.regions x in
        l ∙ ap (λ (q : Region). overlap_as i (in_header h.regions (as_entry q)) (meets_from 0 (as_entry q) (take i es))) entry.2
        ∙ ap (overlap_as i in_header_lem) (same_from 0 entry.0 (take i es))

    pub left_on : (m : Misplaced) → o ≡ Err m → left_from h (entries_for h.regions x) i ≡ as_placement (Err m)
    left_on m k = opened ∙ lies_on in_header_lem met i behind m (sym k ∙ lies)

    pub left_next : o ≡ Ok tt → left_from h (entries_for h.regions x) i ≡ behind
    left_next k = opened ∙ lies_on_none in_header_lem met i behind (sym k ∙ lies)

pub left_done : (h : Header) (x : List ℕ) (i : ℕ) → h.regions ≤ i → left_from h (entries_for h.regions x) i ≡ placed_apart h
unfolding left_from placement_from
left_done h x i l =
    let s : length (entries_for h.regions x) ≤ i = omega (arith, length_entries_for h.regions x) in
    ap (placement_from h i (take i (entries_for h.regions x))) (drop_of_length-le (entries_for h.regions x) s)
