-- Planes, visited regions, examined words, and the scans' reports. (FORMAT 7)
use Rattle.std.specs.Prelude.{◌≡◌, Bool, not, ◌&&◌, cond, List, [], ◌∷◌, ◌++◌, ℕ, zero, suc, ◌+◌, ◌*◌, ◌/◌, min, leb, ltb, length, Option, None, Some}
use Rattle.model.specs.Bytes.{at, word_at, given, tabulate}
use Rattle.model.specs.Layout.{has_ecc, is_plane, Entry, end, directory}
use Rattle.model.specs.Views.{entries_for, first_that, plane_for}
use Rattle.model.specs.Parity.{Class, clean, flipped, uncorrectable, decode, Outcome, outcome}

-- ---- the report on a run of decoded words

pub record Report : Type 0 where
  pub words : ℕ
  pub corrected : ℕ
  pub uncorrectable : ℕ

-- 1 if the word is corrected, else 0
abbrev pub is_corrected : Class → ℕ
is_corrected clean = 0
is_corrected (flipped i) = 1
is_corrected uncorrectable = 0

-- 1 if the word is uncorrectable, else 0
abbrev pub is_uncorrectable : Class → ℕ
is_uncorrectable clean = 0
is_uncorrectable (flipped i) = 0
is_uncorrectable uncorrectable = 1

unfoldable pub total : (Class → ℕ) → List Class → ℕ
total f [] = 0
total f (c ∷ cs) = f c + total f cs

unfoldable pub report : List Class → Report
report cs = record { words = length cs; corrected = total is_corrected cs; uncorrectable = total is_uncorrectable cs }

-- ---- a run of words and its plane, as two slices: plane byte w belongs to word w

unfoldable pub slice_words : List ℕ → List ℕ → ℕ
slice_words data' plane = min (length data' / 8) (length plane)

-- word w, nothing where either slice ends
unfoldable pub slice_word : List ℕ → List ℕ → ℕ → Option Outcome
slice_word data' plane w = given (ltb w (slice_words data' plane)) (outcome (word_at data' w) (at plane w))

unfoldable pub slice_scan : List ℕ → List ℕ → Report
slice_scan data' plane = report (tabulate (slice_words data' plane) (λ w. decode (word_at data' w) (at plane w)))

-- ---- the plane of a region: the first entry in directory order that is a plane and covers its kind

-- nothing where the region or that plane ends past len bytes
abbrev pub plane_within : ℕ → Entry → Option Entry → Option Entry
plane_within len e None = None
plane_within len e (Some p) = given (leb (end e) len && leb (end p) len) p

unfoldable pub plane_of : ℕ → List Entry → Entry → Option Entry
plane_of len all e = plane_within len e (first_that (plane_for e.kind) all)

-- ---- the regions that a whole scan visits: protected, and with a plane

-- an entry is protected if it is no plane and has flag 2
unfoldable pub is_protected : Entry → Bool
is_protected e = not (is_plane e.flags) && has_ecc e.flags

-- a visit: a region, and the plane that covers it
pub record Visit : Type 0 where
  pub region : Entry
  pub plane : Entry

-- the visit of a region with the plane that was found for it, and none without a plane
abbrev pub visit_with : Entry → Option Entry → List Visit
visit_with e None = []
visit_with e (Some p) = record { region = e; plane = p } ∷ []

-- the visit of one entry, and none where it is not protected or has no plane
unfoldable pub visit_of : ℕ → List Entry → Entry → List Visit
visit_of len all e = cond (is_protected e) (visit_with e (plane_of len all e)) []

-- the visits of some entries in turn; `all` is the directory that planes are looked up in
unfoldable pub visits_over : ℕ → List Entry → List Entry → List Visit
visits_over len all [] = []
visits_over len all (e ∷ es) = visit_of len all e ++ visits_over len all es

-- the visits of an image, in directory order
unfoldable pub visits : List ℕ → List Visit
visits x = visits_over (length x) (directory x) (directory x)

-- ---- the codewords: each examined word by its number in the image, with the place of its check byte

pub record Codeword : Type 0 where
  pub word : ℕ
  pub check : ℕ

-- the codewords of n words from q on, with check bytes from c on
unfoldable pub codewords_from : ℕ → ℕ → ℕ → List Codeword
codewords_from zero q c = []
codewords_from (suc n) q c = record { word = q; check = c } ∷ codewords_from n (suc q) (suc c)

-- the codewords of a visit: words past the shorter of region and plane are not examined
unfoldable pub words_of : Visit → List Codeword
words_of v = codewords_from (min v.region.words (8 * v.plane.words)) v.region.offset (8 * v.plane.offset)

unfoldable pub codewords_in : List Visit → List Codeword
codewords_in [] = []
codewords_in (v ∷ vs) = words_of v ++ codewords_in vs

-- the codewords of an image
unfoldable pub codewords : List ℕ → List Codeword
codewords x = codewords_in (visits x)

-- word q with check byte c is one of the codewords
pub data Among (q c : ℕ) : List Codeword → Type 0 where
  here : {p : Codeword} {ps : List Codeword} → p.word ≡ q → p.check ≡ c → Among q c (p ∷ ps)
  later : {p : Codeword} {ps : List Codeword} → Among q c ps → Among q c (p ∷ ps)

-- ---- the scans

unfoldable pub class_at : List ℕ → Codeword → Class
class_at x p = decode (word_at x p.word) (at x p.check)

unfoldable pub classes_at : List ℕ → List Codeword → List Class
classes_at x [] = []
classes_at x (p ∷ ps) = class_at x p ∷ classes_at x ps

-- the report on every word examined; nothing where no region is visited
unfoldable pub scan_of : List ℕ → List Visit → Option Report
scan_of x [] = None
scan_of x (v ∷ vs) = Some (report (classes_at x (codewords_in (v ∷ vs))))

-- the scan of an image that parses
unfoldable pub scan : List ℕ → Option Report
scan x = scan_of x (visits x)

-- the scan of bytes x with a count n that stands beside them
unfoldable pub scan_in : ℕ → List ℕ → Option Report
scan_in n x = scan_of x (visits_over (length x) (entries_for n x) (entries_for n x))

-- the scan of one region alone, which need not be flagged 2
unfoldable pub scan_region : ℕ → List ℕ → Entry → Option Report
scan_region n x e = scan_of x (visit_with e (plane_of (length x) (entries_for n x) e))
