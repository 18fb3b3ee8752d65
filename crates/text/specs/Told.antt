-- What the command prints of an image, and what the program scrub leaves of one. (FORMAT 11, 14)
use Rattle.std.specs.Prelude.{Bool, cond, List, [], ◌∷◌, ◌++◌, map, ℕ, ltb, length, Option, None, Some}
use Rattle.model.specs.Mend.{MendAnswer, refused_mend, mended}
use Rattle.model.specs.Programs.{Found, too_long, refused_image, image, mend_within, report_lines, text, field, too_long_line, refused_line, regions_line, stored_line, lines}
use Rattle.error.specs.Refused.{number_of, detail_of}
use Rattle.findings.specs.declared.Rejected.{Rejected}
use Rattle.findings.specs.declared.Rejected.TheVariants.{TooLong, Refused}
use Rattle.findings.specs.Answers.{left_within, uncorrectable_in}

-- what stands before a line on one of several files
unfoldable pub prefix : List ℕ → Bool → List ℕ
prefix name several = cond several (name ++ text ": ") []

unfoldable pub file_lines : List ℕ → Bool → Found → List ℕ
file_lines name several f = lines (map (λ (l : List ℕ). prefix name several ++ l) (report_lines f))

-- the report on a file; no name is longer than 4,096 bytes, and for one that were nothing is said
unfoldable pub file_report : List ℕ → Bool → Found → List ℕ
file_report name several f = cond (ltb 4096 (length name)) [] (file_lines name several f)

-- the line on what is not looked at, or not mended
abbrev pub rejected_line : Rejected → List ℕ
rejected_line TooLong = too_long_line
rejected_line (Refused r) = refused_line (number_of r) (detail_of r)

-- ---- mend

unfoldable pub uncorrectable_line : ℕ → List ℕ
uncorrectable_line n = field "uncorrectable " n

abbrev pub uncorrectable_lines : ℕ → List (List ℕ)
uncorrectable_lines n = cond (ltb 0 n) (uncorrectable_line n ∷ []) []

abbrev pub mend_lines : Option MendAnswer → List (List ℕ)
mend_lines None = too_long_line ∷ []
mend_lines (Some (refused_mend n d)) = refused_line n d ∷ []
mend_lines (Some (mended y r stored whole)) = stored_line stored ∷ uncorrectable_lines (uncorrectable_in r)

unfoldable pub mend_text : Option MendAnswer → List ℕ
mend_text m = lines (mend_lines m)

-- ---- scrub

abbrev pub left_in : List ℕ → List ℕ
left_in x = left_within (mend_within 65536 x) x

-- ---- steps of code, for private contracts

abbrev pub first_line : Found → List ℕ
first_line too_long = too_long_line
first_line (refused_image n d) = refused_line n d
first_line (image n scrub s) = regions_line n scrub
