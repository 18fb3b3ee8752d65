-- Laid apart, and mend: first the rules as FORMAT 10 states them, then the procedures that meet them. (FORMAT 10)
use Rattle.std.specs.Prelude.{◌≡◌, Bool, true, false, ◌&&◌, cond, List, [], ◌∷◌, ◌++◌, ℕ, suc, ◌+◌, ◌*◌, ◌/◌, ◌≤◌, ◌<◌, eqb, ltb, length, drop, set, Option, None, Some}
use Rattle.std.proofs.lemmas.List.Edits.{sets}
use Rattle.model.specs.Bytes.{at, word_at, le_bytes, Bytes}
use Rattle.model.specs.Refusals.{overlapping_regions, Verdict, fine, refuse}
use Rattle.model.specs.Layout.{count, header_length, header, directory, Entry, start, end}
use Rattle.model.specs.Views.{nth}
use Rattle.model.specs.Parse.{Header, Parsed, accepted, refused, parse}
use Rattle.model.specs.Parity.{Class, clean, flipped, uncorrectable, flip_word, check_of, fixed_word, fixed_check}
use Rattle.model.specs.Scan.{Codeword, Among, codewords, class_at, Report, scan}

-- ---- the rule: laid apart

-- byte b is one of the region's
abbrev pub InRegion : Entry → ℕ → Type 0
InRegion e b = (start e ≤ b) × (b < end e)

-- the entries es of a directory of n entries lie apart
pub record LaidApart (n : ℕ) (es : List Entry) : Type 0 where
  -- no non-empty region starts inside the header
  pub behind : (i : ℕ) (e : Entry) → nth i es ≡ Some e → 0 < e.words → header_length n ≤ start e
  -- no two non-empty regions share a byte (an empty one has none)
  pub apart : (i j : ℕ) → i < j → (e f : Entry) → nth i es ≡ Some e → nth j es ≡ Some f → (b : ℕ) → InRegion e b → InRegion f b → ⊥

-- entry i is non-empty, and starts inside the header or shares a byte with an earlier non-empty entry
pub data Misplaced (n : ℕ) (es : List Entry) (i : ℕ) : Type 0 where
  on_header : (e : Entry) → nth i es ≡ Some e → 0 < e.words → start e < header_length n → Misplaced n es i
  on_earlier : (j : ℕ) → j < i → (e f : Entry) → nth i es ≡ Some e → nth j es ≡ Some f → (b : ℕ) → InRegion e b → InRegion f b → Misplaced n es i

-- entry i is misplaced, and no earlier entry is
pub record FirstMisplaced (n : ℕ) (es : List Entry) (i : ℕ) : Type 0 where
  pub here : Misplaced n es i
  pub first : (j : ℕ) → j < i → Misplaced n es j → ⊥

-- ---- the rule: what mend leaves. y is x mended, for an image x that parses and is laid apart

-- p is neither in the header, nor in an examined word, nor an examined word's check byte
pub record Elsewhere (x : List ℕ) (p : ℕ) : Type 0 where
  pub past : header_length (count x) ≤ p
  pub no_word : (q c : ℕ) → Among q c (codewords x) → q ≡ p / 8 → ⊥
  pub no_check : (q c : ℕ) → Among q c (codewords x) → c ≡ p → ⊥

pub record MendRule (x y : List ℕ) : Type 0 where
  pub size : length y ≡ length x
  pub bytes : Bytes y
  -- all header copies become the vote
  pub copies : (p : ℕ) → p < header_length (count x) → at y p ≡ at (header x) p
  -- each examined word becomes as scrub makes it
  pub words : (q c : ℕ) → Among q c (codewords x) → word_at y q ≡ fixed_word (word_at x q) (at x c)
  -- the check byte of an examined word matches if the word was corrected, and is kept if not
  pub checks : (q c : ℕ) → Among q c (codewords x) → at y c ≡ fixed_check (word_at x q) (at x c)
  -- nothing else moves
  pub others : (p : ℕ) → Elsewhere x p → at y p ≡ at x p

-- ---- the procedure: refusals, in mend's order (`mend_refuses_exactly` in the crate theorems: they are the rule's)

-- two non-empty regions share a byte
unfoldable pub meets : Entry → Entry → Bool
meets e f = (ltb 0 e.words && ltb 0 f.words) && (ltb e.offset (f.offset + f.words) && ltb f.offset (e.offset + e.words))

-- a non-empty region starts inside the header of n entries
unfoldable pub in_header : ℕ → Entry → Bool
in_header n e = ltb 0 e.words && ltb (start e) (header_length n)

-- what a misplaced entry lies on: the header, or else the lowest earlier entry that it shares a byte with

-- the first of the entries, which count from j on, that shares a byte with e
unfoldable pub meets_from : ℕ → Entry → List Entry → Option ℕ
meets_from j e [] = None
meets_from j e (f ∷ fs) = cond (meets e f) (Some j) (meets_from (suc j) e fs)

pub data Placement : Type 0 where
  placed_apart : Header → Placement
  over_header : ℕ → Placement
  over_region : ℕ → ℕ → Placement
  refused_placement : ℕ → ℕ → Placement

-- what is said of entry i, given whether it starts inside the header, the earlier entry that it meets, and what is said of the entries behind it
abbrev pub placement_as : Bool → Option ℕ → ℕ → Placement → Placement
placement_as true o i p = over_header i
placement_as false (Some j) i p = over_region i j
placement_as false None i p = p

-- what is said of the entries from entry i on; `earlier` are the entries before them, in the directory's order
unfoldable pub placement_from : Header → ℕ → List Entry → List Entry → Placement
placement_from h i earlier [] = placed_apart h
placement_from h i earlier (e ∷ es) =
    placement_as (in_header h.regions e) (meets_from 0 e earlier) i
    (placement_from h (suc i) (earlier ++ (e ∷ [])) es)

-- parse, then the first misplaced entry
abbrev pub placement_of : Parsed → List Entry → Placement
placement_of (accepted h) es = placement_from h 0 [] es
placement_of (refused n d) es = refused_placement n d

unfoldable pub placement : List ℕ → Placement
placement x = placement_of (parse x) (directory x)

abbrev pub placement_verdict : Placement → Verdict
placement_verdict (placed_apart h) = fine
placement_verdict (over_header i) = refuse overlapping_regions i
placement_verdict (over_region i j) = refuse overlapping_regions i
placement_verdict (refused_placement n d) = refuse n d

-- parse's refusal, or the first misplaced entry
unfoldable pub mend_verdict : List ℕ → Verdict
mend_verdict x = placement_verdict (placement x)

-- ---- the procedure: one examined word after the other (`mend_is_the_rule` in the crate theorems: it leaves what the rule says, and nothing else meets the rule)

-- a corrected word is written with its check byte
abbrev pub stored_codeword : Class → Codeword → List ℕ → List ℕ
stored_codeword clean p x = x
stored_codeword (flipped i) p x =
    let v = flip_word i (word_at x p.word) in
    sets (set x p.check (check_of v)) (8 * p.word) (le_bytes 8 v)
stored_codeword uncorrectable p x = x

unfoldable pub fix_at : Codeword → List ℕ → List ℕ
fix_at p x = stored_codeword (class_at x p) p x

unfoldable pub fix_all : List Codeword → List ℕ → List ℕ
fix_all [] x = x
fix_all (p ∷ ps) x = fix_all ps (fix_at p x)

unfoldable pub mend_bytes : List ℕ → List ℕ
mend_bytes x = header x ++ drop (header_length (count x)) (fix_all (codewords x) x)

-- ---- the answer

-- a byte that differs: where, and what it was and is
pub record Change : Type 0 where
  pub position : ℕ
  pub old : ℕ
  pub new : ℕ

-- the bytes that differ between two lists, in ascending order; the first stands at position p
unfoldable pub changes_from : ℕ → List ℕ → List ℕ → List Change
changes_from p [] y = []
changes_from p (b ∷ x) [] = []
changes_from p (b ∷ x) (v ∷ y) = cond (eqb b v) [] (record { position = p; old = b; new = v } ∷ []) ++ changes_from (suc p) x y

unfoldable pub changes : List ℕ → List ℕ → List Change
changes x y = changes_from 0 x y

-- the number of positions whose value changed
unfoldable pub changed : List ℕ → List ℕ → ℕ
changed x y = length (changes x y)

abbrev pub none_uncorrectable : Option Report → Bool
none_uncorrectable None = false
none_uncorrectable (Some r) = eqb r.uncorrectable 0

-- there is a report with no uncorrectable word
abbrev pub whole : List ℕ → Bool
whole x = none_uncorrectable (scan x)

pub data MendAnswer : Type 0 where
  refused_mend : ℕ → ℕ → MendAnswer
  mended : List ℕ → Option Report → ℕ → Bool → MendAnswer

abbrev pub mend_as : Verdict → List ℕ → List ℕ → Option Report → MendAnswer
mend_as fine x y r = mended y r (changed x y) (whole x)
mend_as (refuse n d) x y r = refused_mend n d

unfoldable pub mend : List ℕ → MendAnswer
mend x = mend_as (mend_verdict x) x (mend_bytes x) (scan x)
