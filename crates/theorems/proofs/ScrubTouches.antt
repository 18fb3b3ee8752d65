-- Every byte that scrub changes is changed at a word that it meets, whose syndrome is then a data bit's column. Where scrub says nothing, it changed nothing, or what it left does not parse. Assumes nothing.
use mathlib.Core.Path.{◌≡◌, refl, sym, ap, ◌∙◌, subst}
use mathlib.Core.Bool.{Bool, true, false, ◌&&◌, cond}
use mathlib.Core.List.{List, [], ◌∷◌, ◌++◌}
use Rattle.std.specs.Prelude.{Option, None, Some}
use mathlib.Core.Logic.{◌⊎◌, inl, inr}
use Prim.Native.Nat.{ℕ, zero, suc, ◌+◌, ◌*◌, ◌/◌, ◌≤◌, ◌<◌, min}
use native.Mathlib.Decide.{ℕ_discrete}
use native.Mathlib.Nat.{zero-add, min-le_left}
use native.Mathlib.Omega.{arith}
use borrow.Author.Tests.{leb-true}
use lib.Dec.{leb}
use lib.ListN.{length, get_or}
use Rattle.model.specs.Bytes.{at, word_at, given, Bytes}
use Rattle.model.specs.Refusals.{Verdict, fine, refuse}
use Rattle.model.specs.Layout.{count, directory, Entry, end}
use Rattle.model.specs.Parse.{parse_verdict, header_of, refused, parsed_as, parse}
use Rattle.model.specs.Parity.{Class, clean, flipped, uncorrectable, columns, syndrome, decode, flip_word}
use Rattle.model.specs.Views.{nth, first_that, plane_for}
use Rattle.model.specs.Scan.{Codeword, Among, here, later, class_at, plane_within, plane_of, is_protected, Visit, visit_with, visit_of, words_of, Report, report}
use Rattle.model.specs.Scrub.{State, stored_word, scrub_word, scrub_words, scrub_visits, visit_at, scrub_region, if_parsed, scrub_from, scrub}
use Rattle.lemmas.proofs.VerdictLaw.{true_false}
use Rattle.lemmas.proofs.CodeLaw.{flip_word_low}
use Rattle.lemmas.proofs.Fold.{put_word_lem, word_length_lem, word_out, word_is, word_bytes}
use Rattle.lemmas.proofs.CodewordLaw.{among_from, among_left, among_right}
use Rattle.model.proofs.BytesLaw.{read_lt}
use Rattle.model.proofs.ScanLaw.{words_visited}
use Rattle.theorems.specs.ScrubSteps.{begun, entered, Before, first, next, Changes}
use Rattle.theorems.proofs.Touches.{column_of, flipped_byte}

-- ---- one word that lies within the image

-- of len bytes
record Good (len : ℕ) (x : List ℕ) : Type 0 where
  size : length x ≡ len
  bytes : Bytes x

module _ {len : ℕ} (p : Codeword) (x : List ℕ) (g : Good len x) (inside : 8 * suc p.word ≤ len) where
  room : 8 * p.word + 8 ≤ length x
  room = omega (arith, g.size)

  stored : (r : Class) → Good len (stored_word r p x)
  stored clean = g
  stored (flipped i) =
      let v = flip_word i (word_at x p.word) in
      record { size = word_length_lem x p.word v room ∙ g.size; bytes = word_bytes x p.word v room g.bytes }
  stored uncorrectable = g

  -- a byte that is changed holds the wrong bit, which the syndrome names
  changed_byte : (b : ℕ) → (at (stored_word (class_at x p) p x) b ≡ at x b → ⊥)
      → (i : ℕ) × (i < 64) × (syndrome (word_at x p.word) (at x p.check) ≡ get_or columns i 0) × (b ≡ 8 * p.word + i / 8)
  unfolding class_at
  changed_byte b n = go (decode (word_at x p.word) (at x p.check)) refl n
    where
      go : (r : Class) → decode (word_at x p.word) (at x p.check) ≡ r → (at (stored_word r p x) b ≡ at x b → ⊥)
          → (i : ℕ) × (i < 64) × (syndrome (word_at x p.word) (at x p.check) ≡ get_or columns i 0) × (b ≡ 8 * p.word + i / 8)
      go clean d m = absurd (m refl)
      go (flipped i) d m = pick (ℕ_discrete (b / 8) p.word)
        where
          pick : Dec (b / 8 ≡ p.word) → (i : ℕ) × (i < 64) × (syndrome (word_at x p.word) (at x p.check) ≡ get_or columns i 0) × (b ≡ 8 * p.word + i / 8)
          pick (yes e) =
              let v = flip_word i (word_at x p.word) in
              let f = flipped_byte x (put_word_lem x p.word v) p.word i b g.bytes (stored (flipped i)).bytes
              (word_is x p.word v room (flip_word_low (word_at x p.word) i (read_lt 8 x (8 * p.word) g.bytes))) (sym e) m in
              (i, f.0, sym (column_of (word_at x p.word) (at x p.check) i d).is, f.1)
          pick (no e) = absurd (m (word_out x p.word (flip_word i (word_at x p.word)) room b e))
      go uncorrectable d m = absurd (m refl)

-- ---- the words of a run

abbrev Within : ℕ → List Codeword → Type 0
Within len ps = (q c : ℕ) → Among q c ps → 8 * suc q ≤ len

words_good : {len : ℕ} (ps : List Codeword) (s : State) → Within len ps → Good len s.image → Good len (scrub_words ps s).image
unfolding scrub_words scrub_word
words_good [] s w g = g
words_good (p ∷ ps) s w g =
    words_good ps (scrub_word p s) (λ q c m. w q c (later m)) (stored p s.image g (w p.word p.check (here refl refl)) (class_at s.image p))

-- the word at which byte b changes
record Changing (ps : List Codeword) (s : State) (b : ℕ) : Type 0 where
  p : Codeword
  done : List Codeword
  rest : List Codeword
  split : ps ≡ done ++ (p ∷ rest)
  changes : at (scrub_word p (scrub_words done s)).image b ≡ at (scrub_words done s).image b → ⊥

changing : (ps : List Codeword) (s : State) (b : ℕ) → (at (scrub_words ps s).image b ≡ at s.image b → ⊥) → Changing ps s b
unfolding scrub_words
changing [] s b n = absurd (n refl)
changing (p ∷ ps) s b n = go (ℕ_discrete (at (scrub_word p s).image b) (at s.image b)) (λ m. changing ps (scrub_word p s) b m)
  where
    go : Dec (at (scrub_word p s).image b ≡ at s.image b) → ((at (scrub_words ps (scrub_word p s)).image b ≡ at (scrub_word p s).image b → ⊥) → Changing ps (scrub_word p s) b)
        → Changing (p ∷ ps) s b
    go (no d) f = record { p = p; done = []; rest = ps; split = refl; changes = d }
    go (yes e) f =
        let c = f (λ k. n (k ∙ e)) in
        record { p = c.p; done = p ∷ c.done; rest = c.rest; split = ap (λ (l : List Codeword). p ∷ l) c.split; changes = c.changes }

-- ---- a visited region

record Visited (len : ℕ) (e : Entry) (v : Visit) : Type 0 where
  protected : is_protected e ≡ true
  region : v.region ≡ e
  fits : end e ≤ len

both_left : (a b : Bool) → a && b ≡ true → a ≡ true
both_left true b e = refl
both_left false b e = e

given_true : (t : Bool) (a b : Entry) → given t a ≡ Some b → t ≡ true
given_true true a b e = refl
given_true false a b e = absurd (let z : ◌≡◌ {A = ℕ} 0 1 = cc in omega arith)

visited_by : (len : ℕ) (all : List Entry) (e : Entry) (v : Visit) (vs : List Visit) → visit_of len all e ≡ v ∷ vs → Visited len e v
unfolding visit_of plane_of
visited_by len all e v vs h = go (is_protected e) refl (first_that (plane_for e.kind) all) h
  where
    inner : is_protected e ≡ true → (q : Entry) (r : Option Entry) → given (leb (end e) len && leb (end q) len) q ≡ r → visit_with e r ≡ v ∷ vs → Visited len e v
    inner t q None g k = absurd (let z : ◌≡◌ {A = ℕ} 0 1 = cc in omega arith)
    inner t q (Some r) g k =
        let m : record { region = e; plane = r } ≡ v = cc in
        record {
          protected = t;
          region = ap (λ (z : Visit). z.region) (sym m);
          fits = leb-true (end e) len (both_left (leb (end e) len) (leb (end q) len) (given_true (leb (end e) len && leb (end q) len) q r g));
        }

    go : (t : Bool) → is_protected e ≡ t → (o : Option Entry) → cond t (visit_with e (plane_within len e o)) [] ≡ v ∷ vs → Visited len e v
    go true t None k = absurd (let z : ◌≡◌ {A = ℕ} 0 1 = cc in omega arith)
    go true t (Some q) k = inner t q (given (leb (end e) len && leb (end q) len) q) refl k
    go false t o k = absurd (let z : ◌≡◌ {A = ℕ} 0 1 = cc in omega arith)

-- there is no second visit
only_one : (len : ℕ) (all : List Entry) (e : Entry) (v w : Visit) (vs : List Visit) → visit_of len all e ≡ v ∷ w ∷ vs → ⊥
unfolding visit_of
only_one len all e v w vs h = go (is_protected e) (plane_of len all e) h
  where
    go : (t : Bool) (o : Option Entry) → cond t (visit_with e o) [] ≡ v ∷ w ∷ vs → ⊥
    go true None k = absurd (let z : ◌≡◌ {A = ℕ} 0 1 = cc in omega arith)
    go true (Some q) k = let m : ◌≡◌ {A = List Visit} [] (w ∷ vs) = cc in absurd (let z : ◌≡◌ {A = ℕ} 0 1 = cc in omega arith)
    go false o k = absurd (let z : ◌≡◌ {A = ℕ} 0 1 = cc in omega arith)

module _ {len : ℕ} {e : Entry} {v : Visit} (h : Visited len e v) where
  in_region_lem : (q c : ℕ) → Among q c (words_of v) → (e.offset ≤ q) × (q < e.offset + e.words)
  unfolding words_of
  in_region_lem q c m =
      let s = among_from (min v.region.words (8 * v.plane.words)) v.region.offset (8 * v.plane.offset) m in
      let l = min-le_left v.region.words (8 * v.plane.words) in
      let o : v.region.offset ≡ e.offset = ap (λ (z : Entry). z.offset) h.region in
      let w : v.region.words ≡ e.words = ap (λ (z : Entry). z.words) h.region in
      (omega (arith, s.word), omega (arith, s.word, s.inside))

  words_within : Within len (words_of v)
  words_within q c m = let r = in_region_lem q c m in let f = h.fits in let l = r.1 in omega arith

-- ---- a region

abbrev directory_at : State → List Entry
directory_at s = directory s.image

abbrev visits_at : ℕ → State → List Visit
visits_at i s = visit_at (length s.image) (directory_at s) (nth i (directory_at s))

region_good : {len : ℕ} (i : ℕ) (s : State) → Good len s.image → Good len (scrub_region i s).image
unfolding scrub_region scrub_visits
region_good {len} i s g = go (nth i (directory_at s))
  where
    by_visits : (e : Entry) (vs : List Visit) → visit_of (length s.image) (directory_at s) e ≡ vs → Good len (scrub_visits vs s).image
    by_visits e [] k = g
    by_visits e (v ∷ []) k =
        words_good (words_of v) (entered s) (subst (λ (n : ℕ). Within n (words_of v)) g.size (words_within (visited_by (length s.image) (directory_at s) e v [] k))) g
    by_visits e (v ∷ w ∷ vs) k = absurd (only_one (length s.image) (directory_at s) e v w vs k)

    go : (o : Option Entry) → Good len (scrub_visits (visit_at (length s.image) (directory_at s) o) s).image
    go None = g
    go (Some e) = by_visits e (visit_of (length s.image) (directory_at s) e) refl

region_changes : (x : List ℕ) (i : ℕ) (s : State) → Before x i s → i < count x → parse_verdict s.image ≡ fine → Good (length s.image) s.image
    → (b : ℕ) → (at (scrub_region i s).image b ≡ at s.image b → ⊥) → Changes x b
unfolding scrub_region scrub_visits scrub_word
region_changes x i s before counted parses g b n = go (nth i (directory_at s)) refl n
  where
    at_word : (e : Entry) → nth i (directory_at s) ≡ Some e → (v : Visit) → visit_of (length s.image) (directory_at s) e ≡ v ∷ [] → Changing (words_of v) (entered s) b → Changes x b
    at_word e listed v k c =
        let h : Visited (length s.image) e v = visited_by (length s.image) (directory_at s) e v [] k in
        let t = scrub_words c.done (entered s) in
        let there : Among c.p.word c.p.check (words_of v) = subst (Among c.p.word c.p.check) (sym c.split) (among_right c.done (c.p ∷ c.rest) (here refl refl)) in
        let before-words : Within (length s.image) c.done = λ q d m. words_within h q d (subst (Among q d) (sym c.split) (among_left c.done (c.p ∷ c.rest) m)) in
        let f = changed_byte c.p t.image (words_good c.done (entered s) before-words g) (words_within h c.p.word c.p.check there) b c.changes in
        let r = in_region_lem h c.p.word c.p.check there in
        let r₀ = r.0 in
        let r₁ = r.1 in
        let f₁ = f.1 in
        let f₃ = f.3 in
        record {
          p = c.p;
          t = t;
          meets = record {
            i = i;
            s = s;
            before = before;
            counted = counted;
            parses = parses;
            region = e;
            listed = listed;
            protected = h.protected;
            visit = v;
            visited = k;
            done = c.done;
            rest = c.rest;
            words = c.split;
            now = refl;
          };
          changes = c.changes;
          i = f.0;
          is_data = f.1;
          column = f.2;
          place = f.3;
          inside = (omega arith, omega arith);
        }

    by_visits : (e : Entry) → nth i (directory_at s) ≡ Some e → (vs : List Visit) → visit_of (length s.image) (directory_at s) e ≡ vs → (at (scrub_visits vs s).image b ≡ at s.image b → ⊥) → Changes x b
    by_visits e l [] k m = absurd (m refl)
    by_visits e l (v ∷ []) k m = at_word e l v k (changing (words_of v) (entered s) b m)
    by_visits e l (v ∷ w ∷ vs) k m = absurd (only_one (length s.image) (directory_at s) e v w vs k)

    go : (o : Option Entry) → nth i (directory_at s) ≡ o → (at (scrub_visits (visit_at (length s.image) (directory_at s) o) s).image b ≡ at s.image b → ⊥) → Changes x b
    go None l m = absurd (m refl)
    go (Some e) l m = by_visits e l (visit_of (length s.image) (directory_at s) e) refl m

-- ---- region after region

-- the byte changes in a region after region i
abbrev Later : List ℕ → ℕ → ℕ → State → ℕ → Type 0
Later x n i s b = parse_verdict s.image ≡ fine → (at (scrub_from n (suc i) (scrub_region i s)).image b ≡ at (scrub_region i s).image b → ⊥) → Changes x b

from_changes : (x : List ℕ) (n i : ℕ) (s : State) → i + n ≡ count x → Before x i s → Good (length x) s.image
    → (b : ℕ) → (at (scrub_from n i s).image b ≡ at s.image b → ⊥) → Changes x b
unfolding scrub_from
from_changes x zero i s e before g b m = absurd (m refl)
from_changes x (suc n) i s e before g b m =
    go (parse_verdict s.image) refl m (λ f k. from_changes x n (suc i) (scrub_region i s) (omega arith) (next before (omega arith) f) (region_good i s g) b k)
  where
    pick : parse_verdict s.image ≡ fine → (at (scrub_from n (suc i) (scrub_region i s)).image b ≡ at s.image b → ⊥) → Later x n i s b → Dec (at (scrub_region i s).image b ≡ at s.image b) → Changes x b
    pick f k l (yes d) = l f (λ h. k (h ∙ d))
    pick f k l (no d) = region_changes x i s before (omega arith) f (record { size = refl; bytes = g.bytes }) b d

    go : (v : Verdict) → parse_verdict s.image ≡ v
        → (at (if_parsed v (scrub_from n (suc i) (scrub_region i s)) (record { image = s.image; report = None })).image b ≡ at s.image b → ⊥) → Later x n i s b → Changes x b
    go fine f k l = pick f k l (ℕ_discrete (at (scrub_region i s).image b) (at s.image b))
    go (refuse c d) f k l = absurd (k refl)

pub only_met : (x : List ℕ) → Bytes x → (b : ℕ) → (at (scrub x).image b ≡ at x b → ⊥) → Changes x b
unfolding scrub
only_met x bx b m = go (parse_verdict x) m
  where
    go : (v : Verdict) → (at (if_parsed v (scrub_from (count x) 0 (begun x)) (record { image = x; report = None })).image b ≡ at x b → ⊥) → Changes x b
    go fine k = from_changes x (count x) 0 (begun x) (zero-add (count x)) first (record { size = refl; bytes = bx }) b k
    go (refuse c d) k = absurd (k refl)

-- ---- nothing said

module _ (x : List ℕ) where
  -- no region was visited, so nothing was written
  abbrev Idle : State → Type 0
  Idle s = s.visited ≡ false → s.image ≡ x

  visits_idle : (vs : List Visit) (s : State) → Idle s → Idle (scrub_visits vs s)
  unfolding scrub_visits
  visits_idle [] s h = h
  visits_idle (v ∷ vs) s h =
      visits_idle vs (scrub_words (words_of v) (entered s)) (λ e. absurd (true_false (sym (words_visited (words_of v) (entered s)) ∙ e)))

  region_idle : (i : ℕ) (s : State) → Idle s → Idle (scrub_region i s)
  unfolding scrub_region
  region_idle i s h = visits_idle (visits_at i s) s h

  -- what is left is x, or does not parse
  abbrev Unsaid : List ℕ → Type 0
  Unsaid y = (y ≡ x) ⊎ ((n : ℕ) × (d : ℕ) × (parse y ≡ refused n d))

  spoiled : (y : List ℕ) (n d : ℕ) → parse_verdict y ≡ refuse n d → parse y ≡ refused n d
  unfolding parse
  spoiled y n d e = rw e refl

  not_given : (t : Bool) (r : Report) → given t r ≡ None → t ≡ false
  not_given true r e = absurd (let z : ◌≡◌ {A = ℕ} 0 1 = cc in omega arith)
  not_given false r e = refl

  from_idle : (n i : ℕ) (s : State) → Idle s → (scrub_from n i s).report ≡ None → Unsaid (scrub_from n i s).image
  unfolding scrub_from
  from_idle zero i s h e = inl (h (not_given s.visited (report s.met) e))
  from_idle (suc n) i s h e = go (parse_verdict s.image) refl e (from_idle n (suc i) (scrub_region i s) (region_idle i s h))
    where
      go : (v : Verdict) → parse_verdict s.image ≡ v
          → (if_parsed v (scrub_from n (suc i) (scrub_region i s)) (record { image = s.image; report = None })).report ≡ None
          → ((scrub_from n (suc i) (scrub_region i s)).report ≡ None → Unsaid (scrub_from n (suc i) (scrub_region i s)).image)
          → Unsaid (if_parsed v (scrub_from n (suc i) (scrub_region i s)) (record { image = s.image; report = None })).image
      go fine f k r = r k
      go (refuse c d) f k r = inr (c, d, spoiled s.image c d f)

  pub nothing_said : (scrub x).report ≡ None → Unsaid (scrub x).image
  unfolding scrub
  nothing_said e = go (parse_verdict x) e
    where
      go : (v : Verdict) → (if_parsed v (scrub_from (count x) 0 (begun x)) (record { image = x; report = None })).report ≡ None
          → Unsaid (if_parsed v (scrub_from (count x) 0 (begun x)) (record { image = x; report = None })).image
      go fine k = from_idle (count x) 0 (begun x) (λ t. refl) k
      go (refuse c d) k = inl refl

  -- an image that parse refuses
  pub refused_scrub : (n d : ℕ) → parse x ≡ refused n d → scrub x ≡ record { image = x; report = None }
  unfolding scrub parse
  refused_scrub n d e = go (parse_verdict x) e
    where
      go : (v : Verdict) → parsed_as v (header_of x) ≡ refused n d
          → if_parsed v (scrub_from (count x) 0 (begun x)) (record { image = x; report = None }) ≡ record { image = x; report = None }
      go fine k = absurd (let z : ◌≡◌ {A = ℕ} 0 1 = cc in omega arith)
      go (refuse c d) k = refl
