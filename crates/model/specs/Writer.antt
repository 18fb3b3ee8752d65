-- The writer. (FORMAT 9)
use Rattle.std.specs.Prelude.{Bool, false, not, ◌||◌, cond, List, [], ◌∷◌, ◌++◌, ℕ, zero, suc, ◌+◌, ◌-◌, ◌*◌, ◌/◌, eqb, ltb, length, drop, replicate}
use Rattle.model.specs.Bytes.{read, le_bytes, thrice}
use Rattle.model.specs.Refusals.{bad_plan, duplicate_region, too_many_regions, too_large_lem, no_room_lem, Verdict, fine, refuse, ◌then◌, refuse_if}
use Rattle.model.specs.Crc.{crc32}
use Rattle.model.specs.Layout.{header_length, has_ecc, Entry}
use Rattle.model.specs.Parity.{check_of}

pub record Row : Type 0 where
  pub kind : ℕ
  pub flags : ℕ
  pub words : ℕ

abbrev pub protected_row : Row → Bool
protected_row r = has_ecc r.flags

-- words of a row's region, and of its plane: ceil (words / 8)
abbrev pub region_words : Row → ℕ
region_words r = r.words

abbrev pub plane_words : Row → ℕ
plane_words r = (region_words r + 7) / 8

-- ---- the directory: the rows in order, then one plane per row flagged 2, packed from word a on

abbrev pub row_entry : ℕ → Row → Entry
row_entry a r = record { kind = r.kind; flags = r.flags; offset = a; words = region_words r; covers = 0; reserved = 0 }

unfoldable pub row_entries : ℕ → List Row → List Entry
row_entries a [] = []
row_entries a (r ∷ rs) = row_entry a r ∷ row_entries (a + region_words r) rs

unfoldable pub plane_entry : ℕ → Row → Entry
plane_entry a r = record { kind = 0x8000 + r.kind; flags = 8; offset = a; words = plane_words r; covers = r.kind; reserved = 0 }

unfoldable pub plane_entries : ℕ → List Row → List Entry
plane_entries a [] = []
plane_entries a (r ∷ rs) = cond (protected_row r) (plane_entry a r ∷ plane_entries (a + plane_words r) rs) (plane_entries a rs)

unfoldable pub row_words_lem : List Row → ℕ
row_words_lem [] = 0
row_words_lem (r ∷ rs) = region_words r + row_words_lem rs

unfoldable pub planes_words : List Row → ℕ
planes_words [] = 0
planes_words (r ∷ rs) = cond (protected_row r) (plane_words r) 0 + planes_words rs

unfoldable pub planes : List Row → ℕ
planes [] = 0
planes (r ∷ rs) = cond (protected_row r) 1 0 + planes rs

unfoldable pub regions : List Row → ℕ
regions rs = length rs + planes rs

-- the word right after the header
abbrev pub first_word : List Row → ℕ
first_word rs = 6 + 6 * regions rs

unfoldable pub plan_directory : List Row → List Entry
plan_directory rs = row_entries (first_word rs) rs ++ plane_entries (first_word rs + row_words_lem rs) rs

-- ---- the bytes

unfoldable pub entry_bytes : Entry → List ℕ
entry_bytes e =
    le_bytes 2 e.kind ++ (le_bytes 2 e.flags ++ (le_bytes 4 e.offset ++ (le_bytes 4 e.words ++ (le_bytes 2 e.covers ++ le_bytes 2 e.reserved))))

unfoldable pub entries_bytes : List Entry → List ℕ
entries_bytes [] = []
entries_bytes (e ∷ es) = entry_bytes e ++ entries_bytes es

-- what the prologue of n regions has before its checksum
unfoldable pub prologue_start : ℕ → ℕ → List ℕ
prologue_start n flags = le_bytes 4 0x4B415558 ++ (le_bytes 2 0xFEFF ++ (le_bytes 2 2 ++ (le_bytes 2 n ++ le_bytes 2 flags)))

unfoldable pub prologue_bytes : ℕ → ℕ → List ℕ
prologue_bytes n flags = prologue_start n flags ++ le_bytes 4 (crc32 (prologue_start n flags))

-- the check bytes of n words
unfoldable pub checks : ℕ → List ℕ → List ℕ
checks zero b = []
checks (suc n) b = check_of (read 8 b 0) ∷ checks n (drop 8 b)

-- a plane: the check bytes, and zeros up to a whole word
unfoldable pub plane_bytes : Row → List ℕ → List ℕ
plane_bytes r b = checks (region_words r) b ++ replicate (8 * plane_words r - region_words r) 0

unfoldable pub planes_bytes : List Row → List ℕ → List ℕ
planes_bytes [] b = []
planes_bytes (r ∷ rs) b = cond (protected_row r) (plane_bytes r b) [] ++ planes_bytes rs (drop (8 * region_words r) b)

unfoldable pub plan_image : List Row → List ℕ → List ℕ
plan_image rs payload =
    thrice (prologue_bytes (regions rs) 0) ++ (thrice (entries_bytes (plan_directory rs)) ++ (payload ++ planes_bytes rs payload))

-- ---- the refusals

unfoldable pub kind_among : ℕ → List Row → Bool
kind_among k [] = false
kind_among k (r ∷ rs) = eqb r.kind k || kind_among k rs

-- per row in turn: a kind above 0x7FFF or a flag bit other than 1, 2, 4, then the kind of an earlier row
unfoldable pub rows_verdict : ℕ → List Row → List Row → Verdict
rows_verdict i earlier [] = fine
rows_verdict i earlier (r ∷ rs) =
    refuse_if (ltb 0x7FFF r.kind || ltb 7 r.flags) bad_plan i then
    refuse_if (kind_among r.kind earlier) duplicate_region r.kind then
    rows_verdict (suc i) (r ∷ earlier) rs

unfoldable pub image_length : List Row → ℕ
image_length rs = header_length (regions rs) + 8 * (row_words_lem rs + planes_words rs)

unfoldable pub plan_verdict : List Row → List ℕ → ℕ → Verdict
plan_verdict rs payload room =
    rows_verdict 0 [] rs then
    refuse_if (ltb 1024 (regions rs)) too_many_regions (regions rs) then
    refuse_if (not (eqb (length payload) (8 * row_words_lem rs))) bad_plan (length rs) then
    refuse_if (ltb 8388608 (image_length rs)) too_large_lem 0 then
    refuse_if (ltb room (image_length rs)) no_room_lem 0

pub data Written : Type 0 where
  refused_plan : ℕ → ℕ → Written
  image : List ℕ → Written

abbrev pub write_as : Verdict → List ℕ → Written
write_as fine x = image x
write_as (refuse n d) x = refused_plan n d

unfoldable pub write : List Row → List ℕ → ℕ → Written
write rs payload room = write_as (plan_verdict rs payload room) (plan_image rs payload)
