-- Damage of the kind that mend undoes, and the words in which the demands are stated. (FORMAT 3, 7, 9, 10)
use Rattle.std.specs.Prelude.{◌≡◌, true, false, List, ◌∷◌, ◌++◌, ℕ, zero, suc, ◌+◌, ◌*◌, ◌/◌, ◌≤◌, ◌<◌, ltb, length, get_or, Option, None, Some}
use Rattle.bits.specs.Bit.{bit, num, xor_b}
use Rattle.model.specs.Bytes.{at, word_at, given, part, Bytes}
use Rattle.model.specs.Layout.{count, Entry}
use Rattle.model.specs.Parse.{parse, accepted}
use Rattle.model.specs.Views.{find_region, bytes_span, part_of}
use Rattle.model.specs.Parity.{columns, syndrome, uncorrectable, decode}
use Rattle.model.specs.Scan.{Among, codewords, Report, scan}
use Rattle.model.specs.Writer.{Row, protected_row, region_words, row_entry, row_words_lem, planes_words, planes, regions, first_word}
use Rattle.model.specs.Mend.{Elsewhere}

-- word q of image w is protected, and byte c is its check byte
abbrev pub Protected : List ℕ → ℕ → ℕ → Type 0
Protected w q c = Among q c (codewords w)

-- ---- damage: d is the image w damaged

-- 1 if bit i of byte p differs
abbrev pub off : List ℕ → List ℕ → ℕ → ℕ → ℕ
off w d p i = num (xor_b (bit (at d p) i) (bit (at w p) i))

-- at each bit of three copies of k bytes that start at base, at most one copy differs
abbrev pub OneCopyOff : List ℕ → List ℕ → ℕ → ℕ → Type 0
OneCopyOff w d base k =
    (j i : ℕ) → j < k → i < 8 → off w d (base + j) i + off w d (base + k + j) i + off w d (base + 2 * k + j) i ≤ 1

-- how many of the k low bits of a and b differ
unfoldable pub distance : ℕ → ℕ → ℕ → ℕ
distance zero a b = 0
distance (suc k) a b = num (xor_b (bit a k) (bit b k)) + distance k a b

-- how many of the 72 bits of word q and check byte c differ
abbrev pub bits_off : List ℕ → List ℕ → ℕ → ℕ → ℕ
bits_off w d q c = distance 64 (word_at d q) (word_at w q) + distance 8 (at d c) (at w c)

-- demand 3 is `Damaged 1`
pub record Damaged (limit : ℕ) (w d : List ℕ) : Type 0 where
  -- d has the length of w, and holds bytes
  pub size : length d ≡ length w
  pub bytes : Bytes d
  -- at each header bit, of prologue and directory, at most one of the three copies differs
  pub prologue : OneCopyOff w d 0 16
  pub directory : OneCopyOff w d 48 (16 * count w)
  -- among each protected word and its check byte at most `limit` of the 72 bits differ
  pub words : (q c : ℕ) → Protected w q c → bits_off w d q c ≤ limit
  -- no other byte differs
  pub others : (p : ℕ) → Elsewhere w p → at d p ≡ at w p

-- ---- what mend may touch

-- at some bit byte p stands against bytes a and b, which agree
abbrev pub Outvoted : List ℕ → ℕ → ℕ → ℕ → Type 0
Outvoted x p a b = (i : ℕ) × (i < 8) × (bit (at x a) i ≡ bit (at x b) i) × (bit (at x p) i ≡ bit (at x a) i → ⊥)

-- p is a byte of one of three copies of k bytes that start at base, and the other two outvote it
pub data CopyOff (x : List ℕ) (base k : ℕ) : ℕ → Type 0 where
  first : (j : ℕ) → j < k → Outvoted x (base + j) (base + k + j) (base + 2 * k + j) → CopyOff x base k (base + j)
  second : (j : ℕ) → j < k → Outvoted x (base + k + j) (base + j) (base + 2 * k + j) → CopyOff x base k (base + k + j)
  third : (j : ℕ) → j < k → Outvoted x (base + 2 * k + j) (base + j) (base + k + j) → CopyOff x base k (base + 2 * k + j)

-- the syndrome of a protected word and its check byte is exactly column i
pub record OneColumn (x : List ℕ) (q c i : ℕ) : Type 0 where
  pub word : Protected x q c
  pub column : syndrome (word_at x q) (at x c) ≡ get_or columns i 0

pub data Touched (x : List ℕ) : ℕ → Type 0 where
  in_prologue : {p : ℕ} → CopyOff x 0 16 p → Touched x p
  in_directory : {p : ℕ} → CopyOff x 48 (16 * count x) p → Touched x p
  -- a data bit's column: the byte of the word that has the bit
  in_word : (q c i : ℕ) → OneColumn x q c i → i < 64 → Touched x (8 * q + i / 8)
  -- a check bit's column: the check byte
  is_check : (q c i : ℕ) → OneColumn x q c i → 64 ≤ i → i < 72 → Touched x c

-- word q with check byte c is uncorrectable in d
abbrev pub Uncorrectable : List ℕ → ℕ → ℕ → Type 0
Uncorrectable d q c = decode (word_at d q) (at d c) ≡ uncorrectable

-- ---- reports, and the writer's image read back

-- the report with 0 corrected words
abbrev pub uncorrected : Option Report → Option Report
uncorrected None = None
uncorrected (Some r) = Some (record { words = r.words; corrected = 0; uncorrectable = r.uncorrectable })

-- the entry of row r, which stands behind the rows `before`
abbrev pub entry_of_row : List Row → List Row → Row → Entry
entry_of_row rs before r = row_entry (first_word rs + row_words_lem before) r

pub record ReadsBack (rs : List Row) (payload w : List ℕ) : Type 0 where
  pub parses : parse w ≡ accepted (record { regions = regions rs; prologue_disagreed = false; directory_disagreed = false })
  -- each row's region is found by its kind and hands back its part of the payload
  pub finds : (before : List Row) (r : Row) (behind : List Row) → rs ≡ before ++ (r ∷ behind)
      → find_region (regions rs) w r.kind ≡ Some (entry_of_row rs before r)
  pub hands : (before : List Row) (r : Row) (behind : List Row) → rs ≡ before ++ (r ∷ behind)
      → part_of w (bytes_span (length w) (entry_of_row rs before r)) ≡ part payload (8 * row_words_lem before) (8 * (row_words_lem before + region_words r))
  -- each word of a row flagged 2 is protected, with a check byte of its own in the row's plane
  pub protects : (before : List Row) (r : Row) (behind : List Row) → rs ≡ before ++ (r ∷ behind) → protected_row r ≡ true → (k : ℕ) → k < region_words r
      → Protected w (first_word rs + row_words_lem before + k) (8 * (first_word rs + row_words_lem rs + planes_words before) + k)
  -- the scan is clean; it says "nothing" exactly if no row is flagged 2
  pub scans : scan w ≡ given (ltb 0 (planes rs)) (record { words = length (codewords w); corrected = 0; uncorrectable = 0 })
