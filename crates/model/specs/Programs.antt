-- What the programs print, as ASCII codes. (FORMAT 11)
use Rattle.std.specs.Prelude.{Bool, true, false, ◌||◌, cond, List, [], ◌∷◌, ◌++◌, ℕ, zero, suc, ◌+◌, ◌/◌, ◌%◌, ltb, length, Option, None, Some}
use Prim.Native.Char.{code}
use Prim.Native.String.{String, [] as empty, ◌∷◌ as ◌before◌}
use Rattle.model.specs.Parse.{Parsed, accepted, refused, parse}
use Rattle.model.specs.Scan.{Report, scan}
use Rattle.model.specs.Mend.{MendAnswer, refused_mend, mended, mend}

unfoldable pub text : String → List ℕ
text empty = []
text (c before s) = code c ∷ text s

abbrev pub digit : ℕ → List ℕ
digit d = (48 + d) ∷ []

-- n in decimal, of at most so many digits
unfoldable pub digits : ℕ → ℕ → List ℕ
digits zero n = []
digits (suc places) n = cond (ltb n 10) (digit n) (digits places (n / 10) ++ digit (n % 10))

-- n has at most n + 1 digits
unfoldable pub decimal : ℕ → List ℕ
decimal n = digits (suc n) n

-- a text and a number
unfoldable pub field : String → ℕ → List ℕ
field s n = text s ++ decimal n

-- ---- the lines, without their line feeds

unfoldable pub too_long_line : List ℕ
too_long_line = text "too-long"

unfoldable pub refused_line : ℕ → ℕ → List ℕ
refused_line n d = field "refused " n ++ field " " d

abbrev pub wanted : Bool → String
wanted true = " scrub yes"
wanted false = " scrub no"

unfoldable pub regions_line : ℕ → Bool → List ℕ
regions_line n scrub = field "regions " n ++ text (wanted scrub)

unfoldable pub ecc_line : Option Report → List ℕ
ecc_line None = text "ecc none"
ecc_line (Some r) = field "ecc " r.words ++ (field " " r.corrected ++ field " " r.uncorrectable)

unfoldable pub stored_line : ℕ → List ℕ
stored_line n = field "stored " n

abbrev pub line_feed : List ℕ
line_feed = text "\n"

-- lines one after the other, each with its line feed
unfoldable pub lines : List (List ℕ) → List ℕ
lines [] = []
lines (l ∷ ls) = l ++ (line_feed ++ lines ls)

-- ---- what is found in an image that may have so many bytes

pub data Found : Type 0 where
  too_long : Found
  refused_image : ℕ → ℕ → Found
  -- the number of regions, whether a scrub is wanted, and the whole scan
  image : ℕ → Bool → Option Report → Found

abbrev pub found_in : Parsed → Option Report → Found
found_in (accepted h) s = image h.regions (h.prologue_disagreed || h.directory_disagreed) s
found_in (refused n d) s = refused_image n d

unfoldable pub look : ℕ → List ℕ → Found
look limit x = cond (ltb limit (length x)) too_long (found_in (parse x) (scan x))

-- ---- report: to standard output

abbrev pub report_lines : Found → List (List ℕ)
report_lines too_long = too_long_line ∷ []
report_lines (refused_image n d) = refused_line n d ∷ []
report_lines (image n scrub s) = regions_line n scrub ∷ ecc_line s ∷ []

unfoldable pub report_text : List ℕ → List ℕ
report_text x = lines (report_lines (look 65536 x))

-- ---- scrub: the image to standard output, or no byte; one line to standard error

-- mend's answer, and none for an image that is too long
unfoldable pub mend_within : ℕ → List ℕ → Option MendAnswer
mend_within limit x = cond (ltb limit (length x)) None (Some (mend x))

abbrev pub image_out : Option MendAnswer → List ℕ
image_out None = []
image_out (Some (refused_mend n d)) = []
image_out (Some (mended y r stored whole)) = y

abbrev pub line_of : Option MendAnswer → List ℕ
line_of None = too_long_line
line_of (Some (refused_mend n d)) = refused_line n d
line_of (Some (mended y r stored whole)) = stored_line stored

unfoldable pub scrub_image : List ℕ → List ℕ
scrub_image x = image_out (mend_within 65536 x)

unfoldable pub scrub_line : List ℕ → List ℕ
scrub_line x = line_of (mend_within 65536 x)

unfoldable pub scrub_text : List ℕ → List ℕ
scrub_text x = lines (scrub_line x ∷ [])
