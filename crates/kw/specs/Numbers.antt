-- The model's answers as the numbers that are handed to C. (FORMAT 2, 5, 7, 8, 10)
use Rattle.std.specs.Prelude.{Bool, ◌||◌, List, [], ◌∷◌, ◌++◌, ℕ, Option, None, Some}
use Rattle.bits.specs.Bit.{num}
use Rattle.model.specs.Parse.{Parsed, accepted, refused}
use Rattle.model.specs.Scan.{Report}
use Rattle.model.specs.Mend.{MendAnswer, mended, refused_mend}

-- what is returned: 0, or the refusal's number
abbrev pub refusal_number : Parsed → ℕ
refusal_number (accepted h) = 0
refusal_number (refused n d) = n

-- the number of regions and whether scrub is wanted, or the refusal's detail
abbrev pub parse_numbers : Parsed → List ℕ
parse_numbers (accepted h) = h.regions ∷ num (h.prologue_disagreed || h.directory_disagreed) ∷ []
parse_numbers (refused n d) = d ∷ 0 ∷ []

-- 1 and the counts, or zeros
abbrev pub report_numbers : Option Report → List ℕ
report_numbers (Some r) = 1 ∷ r.words ∷ r.corrected ∷ r.uncorrectable ∷ []
report_numbers None = 0 ∷ 0 ∷ 0 ∷ 0 ∷ []

-- the report's numbers of an accepted image, or the refusal's detail
abbrev pub scan_numbers : Parsed → Option Report → List ℕ
scan_numbers (accepted h) s = report_numbers s
scan_numbers (refused n d) s = d ∷ 0 ∷ 0 ∷ 0 ∷ []

-- ---- mend

-- the report's numbers, how many bytes were stored, and whether the image is whole
abbrev pub mending_numbers : Option Report → ℕ → Bool → List ℕ
mending_numbers s k w = report_numbers s ++ k ∷ num w ∷ []

abbrev pub mend_number : MendAnswer → ℕ
mend_number (mended y r k w) = 0
mend_number (refused_mend n d) = n

abbrev pub mend_numbers : MendAnswer → List ℕ
mend_numbers (mended y r k w) = mending_numbers r k w
mend_numbers (refused_mend n d) = d ∷ 0 ∷ 0 ∷ 0 ∷ 0 ∷ 0 ∷ []
