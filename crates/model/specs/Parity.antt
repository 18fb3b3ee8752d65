-- The (72,64) code: columns, check byte, the class of a syndrome, what a word is decoded to. (FORMAT 7)
use Rattle.std.specs.Prelude.{Bool, cond, List, [], ◌∷◌, ◌++◌, ℕ, suc, ◌-◌, ◌%◌, ◌^◌, eqb, ltb, take, Option, None, Some, option_map}
use Rattle.std.specs.Int.Count.{ones}
use Rattle.std.specs.Int.Bits.{bit_xor, bit_or}
use Rattle.bits.specs.Linear.{xor_columns}
use Rattle.model.specs.Bytes.{tabulate}

-- ---- Hsiao's rule: columns of odd weight, all different, the lightest first

-- those of a list that pass a test
unfoldable pub keep_if : (ℕ → Bool) → List ℕ → List ℕ
keep_if t [] = []
keep_if t (n ∷ ns) = cond (t n) (n ∷ keep_if t ns) (keep_if t ns)

-- the bytes with t ones, ascending
unfoldable pub of_weight : ℕ → List ℕ
of_weight t = keep_if (λ b. eqb (ones b) t) (tabulate 256 (λ b. b))

-- data bits 0 to 55: the bytes with three ones; 56 to 63: the first eight with five; check bit j: the byte with only bit j
unfoldable pub hsiao : List ℕ
hsiao = of_weight 3 ++ (take 8 (of_weight 5) ++ tabulate 8 (λ j. 2 ^ j))

-- the columns as a table (`columns_rule` in proofs/: they are Hsiao's)
unfoldable pub columns : List ℕ
columns = 7 ∷ 11 ∷ 13 ∷ 14 ∷ 19 ∷ 21 ∷ 22 ∷ 25 ∷ 26 ∷ 28 ∷ 35 ∷ 37 ∷ 38 ∷ 41 ∷ 42 ∷ 44 ∷ 49 ∷ 50 ∷ 52 ∷ 56 ∷ 67 ∷ 69 ∷ 70 ∷ 73 ∷ 74 ∷ 76 ∷ 81 ∷ 82 ∷ 84 ∷ 88 ∷ 97 ∷ 98 ∷ 100 ∷ 104 ∷ 112 ∷ 131 ∷ 133 ∷ 134 ∷ 137 ∷ 138 ∷ 140 ∷ 145 ∷ 146 ∷ 148 ∷ 152 ∷ 161 ∷ 162 ∷ 164 ∷ 168 ∷ 176 ∷ 193 ∷ 194 ∷ 196 ∷ 200 ∷ 208 ∷ 224 ∷ 31 ∷ 47 ∷ 55 ∷ 59 ∷ 61 ∷ 62 ∷ 79 ∷ 87 ∷ 1 ∷ 2 ∷ 4 ∷ 8 ∷ 16 ∷ 32 ∷ 64 ∷ 128 ∷ []

-- ---- the check byte, and the syndrome

-- the exclusive-or of the columns of the word's set bits
unfoldable pub check_of : ℕ → ℕ
check_of w = xor_columns (take 64 columns) w

unfoldable pub syndrome : ℕ → ℕ → ℕ
syndrome w c = bit_xor (check_of w) c

-- ---- the class of a syndrome

pub data Class : Type 0 where
  clean : Class
  -- bit 0 to 63 of the word, or 64 to 71: bit 0 to 7 of the check byte
  flipped : ℕ → Class
  uncorrectable : Class

-- the place of s in a list, if it is there
unfoldable pub find : ℕ → List ℕ → Option ℕ
find s [] = None
find s (c ∷ cs) = cond (eqb c s) (Some 0) (option_map suc (find s cs))

-- an odd number of ones
unfoldable pub is_odd_lem : ℕ → Bool
is_odd_lem s = eqb (ones s % 2) 1

-- the class of a syndrome by its place among the columns
abbrev pub flipped_at : Option ℕ → Class
flipped_at None = uncorrectable
flipped_at (Some i) = flipped i

unfoldable pub class_of : ℕ → Class
class_of s = cond (eqb s 0) clean (cond (is_odd_lem s) (flipped_at (find s columns)) uncorrectable)

-- ---- bit i of the 72 of a word and its check byte flipped: what becomes of the word, and of the byte

unfoldable pub flip_word : ℕ → ℕ → ℕ
flip_word i w = cond (ltb i 64) (bit_xor w (2 ^ i)) w

unfoldable pub flip_check : ℕ → ℕ → ℕ
flip_check i c = cond (ltb i 64) c (bit_xor c (2 ^ (i - 64)))

-- ---- what a word and a check byte are decoded to

unfoldable pub decode : ℕ → ℕ → Class
decode w c = class_of (syndrome w c)

pub data Outcome : Type 0 where
  clean_word : ℕ → Outcome
  corrected_word : ℕ → Outcome
  uncorrectable_word : Outcome

abbrev pub outcome_as : Class → ℕ → Outcome
outcome_as clean w = clean_word w
outcome_as (flipped i) w = corrected_word (flip_word i w)
outcome_as uncorrectable w = uncorrectable_word

unfoldable pub outcome : ℕ → ℕ → Outcome
outcome w c = outcome_as (decode w c) w

-- ---- what repair makes of a word, and of its check byte

abbrev pub word_after : Class → ℕ → ℕ
word_after clean w = w
word_after (flipped i) w = flip_word i w
word_after uncorrectable w = w

-- the check byte matches if the word was corrected, and is kept if not
abbrev pub check_after : Class → ℕ → ℕ → ℕ
check_after clean w c = c
check_after (flipped i) w c = check_of (flip_word i w)
check_after uncorrectable w c = c

unfoldable pub fixed_word : ℕ → ℕ → ℕ
fixed_word w c = word_after (decode w c) w

unfoldable pub fixed_check : ℕ → ℕ → ℕ
fixed_check w c = check_after (decode w c) w c

-- the kind of the plane of kind k
abbrev pub plane_kind : ℕ → ℕ
plane_kind k = bit_or k 0x8000
