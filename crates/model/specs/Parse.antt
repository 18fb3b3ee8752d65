-- Parse: the order of the refusals. (FORMAT 5)
use Rattle.std.specs.Prelude.{Bool, false, not, ◌||◌, List, [], ◌∷◌, ℕ, suc, eqb, ltb, length, take}
use Rattle.model.specs.Refusals.{truncated, bad_magic, foreign_endian, unsupported_version, bad_prologue_checksum, too_many_regions, region_out_of_bounds, duplicate_region, Verdict, fine, refuse, ◌then◌, refuse_if}
use Rattle.model.specs.Crc.{crc32}
use Rattle.model.specs.Layout.{prologue, magic_in, marker_in, version_in, count_in, checksum_in, count, header_length, directory, prologue_off, directory_off, Entry, end}

unfoldable pub prologue_verdict : List ℕ → Verdict
prologue_verdict p =
    refuse_if (not (eqb (magic_in p) 0x4B415558)) bad_magic 0 then
    refuse_if (not (eqb (marker_in p) 0xFEFF)) foreign_endian 0 then
    refuse_if (not (eqb (version_in p) 2)) unsupported_version (version_in p) then
    refuse_if (not (eqb (checksum_in p) (crc32 (take 12 p)))) bad_prologue_checksum 0 then
    refuse_if (ltb 1024 (count_in p)) too_many_regions (count_in p)

-- an entry of this kind
unfoldable pub among : ℕ → List Entry → Bool
among k [] = false
among k (e ∷ es) = eqb e.kind k || among k es

-- for each entry in turn: its end past the image, then a later entry with its kind
unfoldable pub entries_verdict : ℕ → ℕ → List Entry → Verdict
entries_verdict len i [] = fine
entries_verdict len i (e ∷ es) =
    refuse_if (ltb len (end e)) region_out_of_bounds i then
    refuse_if (among e.kind es) duplicate_region e.kind then
    entries_verdict len (suc i) es

-- what parse says of an image's length, voted prologue and directory
unfoldable pub header_verdict : ℕ → List ℕ → List Entry → Verdict
header_verdict len p es =
    refuse_if (ltb len 48) truncated 0 then
    prologue_verdict p then
    refuse_if (ltb len (header_length (count_in p))) truncated 0 then
    entries_verdict len 0 es

unfoldable pub parse_verdict : List ℕ → Verdict
parse_verdict x = header_verdict (length x) (prologue x) (directory x)

-- ---- the answer: a header, or a refusal with its detail

pub record Header : Type 0 where
  pub regions : ℕ
  pub prologue_disagreed : Bool
  pub directory_disagreed : Bool

pub data Parsed : Type 0 where
  accepted : Header → Parsed
  refused : ℕ → ℕ → Parsed

unfoldable pub header_of : List ℕ → Header
header_of x = record { regions = count x; prologue_disagreed = prologue_off x; directory_disagreed = directory_off x }

abbrev pub parsed_as : Verdict → Header → Parsed
parsed_as fine h = accepted h
parsed_as (refuse n d) h = refused n d

unfoldable pub parse : List ℕ → Parsed
parse x = parsed_as (parse_verdict x) (header_of x)
