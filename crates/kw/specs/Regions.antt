-- What kw_region and kw_region_at give back in numbers. (FORMAT 2, 5, 6)
use Rattle.std.specs.Prelude.{List, [], ◌∷◌, ℕ, ◌≤◌, length, Option, None, Some, option_map}
use Rattle.model.specs.Layout.{Entry, start, end}
use Rattle.model.specs.Parse.{Parsed, accepted, refused}
use Rattle.layout.specs.Regions.{as_entry}
use Rattle.layout.specs.declared.Region.{Region}

-- ---- by kind

-- 1, the first byte, the byte after the last and the flags; or zeros
abbrev pub place_numbers : Option Entry → List ℕ
place_numbers (Some e) = 1 ∷ start e ∷ end e ∷ e.flags ∷ []
place_numbers None = 0 ∷ 0 ∷ 0 ∷ 0 ∷ []

-- a region's numbers in an accepted image, or the refusal's detail
abbrev pub region_numbers : Parsed → Option Entry → List ℕ
region_numbers (accepted h) o = place_numbers o
region_numbers (refused n d) o = d ∷ 0 ∷ 0 ∷ 0 ∷ []

-- ---- by index

-- 1, the kind, the flags, the first byte, the byte after the last and the kind that a plane covers; or zeros
abbrev pub entry_numbers : Option Entry → List ℕ
entry_numbers (Some e) = 1 ∷ e.kind ∷ e.flags ∷ start e ∷ end e ∷ e.covers ∷ []
entry_numbers None = 0 ∷ 0 ∷ 0 ∷ 0 ∷ 0 ∷ 0 ∷ []

-- an entry's numbers in an accepted image, or the refusal's detail
abbrev pub region_at_numbers : Parsed → Option Entry → List ℕ
region_at_numbers (accepted h) o = entry_numbers o
region_at_numbers (refused n d) o = d ∷ 0 ∷ 0 ∷ 0 ∷ 0 ∷ 0 ∷ []

-- ---- what both answers are shown to be (proofs/Inside.antt): a place in the image x

abbrev pub Inside : List ℕ → ℕ → ℕ → Type 0
Inside x first past = (first ≤ past) × (past ≤ length x)

-- ---- steps of code, for private contracts

-- a region that was handed out, as an entry: no number above depends on the reserved field
abbrev pub as_found : Option Region → Option Entry
as_found = option_map as_entry
