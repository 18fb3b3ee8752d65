-- Answers as the numbers that are handed to C.
use Rattle.std.specs.Prelude.{Bool, List, [], ◌∷◌, ℕ, ◌*◌, Option, None, Some}
use Rattle.bits.specs.Bit.{num}
use Rattle.model.specs.Layout.{is_encrypted, is_plane, has_ecc}
use Rattle.model.specs.Parity.{Outcome, clean_word, corrected_word, uncorrectable_word}
use Rattle.model.specs.Scan.{Report}

-- 1 and the number, or 0 and 0
abbrev pub as_numbers : Option ℕ → List ℕ
as_numbers (Some n) = 1 ∷ n ∷ []
as_numbers None = 0 ∷ 0 ∷ []

-- of an entry's flags, offset and length in words: offset and length in bytes, and whether it is encrypted, is a plane, is flagged 2
abbrev pub region_numbers : ℕ → ℕ → ℕ → List ℕ
region_numbers flags offset words =
    8 * offset ∷ 8 * words ∷ num (is_encrypted flags) ∷ num (is_plane flags) ∷ num (has_ecc flags) ∷ []

-- how a word was decoded, and to what
abbrev pub outcome_numbers : Outcome → List ℕ
outcome_numbers (clean_word w) = 0 ∷ w ∷ []
outcome_numbers (corrected_word w) = 1 ∷ w ∷ []
outcome_numbers uncorrectable_word = 2 ∷ 0 ∷ []

-- 1 and the decoded word, or zeros
abbrev pub word_numbers : Option Outcome → List ℕ
word_numbers (Some o) = 1 ∷ outcome_numbers o
word_numbers None = 0 ∷ 0 ∷ 0 ∷ []

abbrev pub count_numbers : Report → List ℕ
count_numbers r = r.words ∷ r.corrected ∷ r.uncorrectable ∷ []

-- two answers, a yes as 1
abbrev pub answers_numbers : Bool → Bool → List ℕ
answers_numbers a b = num a ∷ num b ∷ []
