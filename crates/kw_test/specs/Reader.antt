-- The reader's answers as the numbers that are handed to C.
use Rattle.std.specs.Prelude.{List, [], ◌∷◌, ℕ, length, Option, None, Some}
use Rattle.bits.specs.Bit.{num}
use Rattle.model.specs.Crc.{crc32}
use Rattle.model.specs.Layout.{Entry}
use Rattle.model.specs.Parse.{Parsed, accepted, refused}
use Rattle.model.specs.Views.{Range, Span, span, no_span}
use Rattle.model.specs.Scan.{Report}
use Rattle.layout.specs.declared.Region.{Region}

-- 0, the count and the two marks; or a refusal's number and detail
abbrev pub parsed_numbers : Parsed → List ℕ
parsed_numbers (accepted h) = 0 ∷ h.regions ∷ num h.prologue_disagreed ∷ num h.directory_disagreed ∷ []
parsed_numbers (refused n d) = n ∷ d ∷ 0 ∷ 0 ∷ []

-- 1 and the entry's fields, or zeros
abbrev pub entry_numbers : Option Entry → List ℕ
entry_numbers (Some e) = 1 ∷ e.kind ∷ e.flags ∷ e.offset ∷ e.words ∷ e.covers ∷ []
entry_numbers None = 0 ∷ 0 ∷ 0 ∷ 0 ∷ 0 ∷ 0 ∷ []

-- 1 and the fields of the region that a lookup hands out, or zeros
abbrev pub found_numbers : Option Region → List ℕ
found_numbers (Some r) = 1 ∷ r.kind ∷ r.flags ∷ r.word_offset ∷ r.word_length ∷ r.covers ∷ []
found_numbers None = 0 ∷ 0 ∷ 0 ∷ 0 ∷ 0 ∷ 0 ∷ []

-- an entry of these fields; no answer depends on the reserved one
abbrev pub entry_with : ℕ → ℕ → ℕ → ℕ → ℕ → Entry
entry_with kind flags offset words covers =
    record { kind = kind; flags = flags; offset = offset; words = words; covers = covers; reserved = 0 }

-- an entry with this offset and length, 0 elsewhere: no place depends on its other fields
abbrev pub entry_at : ℕ → ℕ → Entry
entry_at offset words = entry_with 0 0 offset words 0

-- 1, start and end, or zeros
abbrev pub place_numbers : Option Range → List ℕ
place_numbers (Some r) = 1 ∷ r.first ∷ r.past ∷ []
place_numbers None = 0 ∷ 0 ∷ 0 ∷ []

-- 0, start and end; or a refusal's number and detail
abbrev pub span_numbers : Span → List ℕ
span_numbers (span r) = 0 ∷ r.first ∷ r.past ∷ []
span_numbers (no_span n d) = n ∷ d ∷ 0 ∷ []

-- a part's length and checksum
abbrev pub part_numbers : List ℕ → List ℕ
part_numbers x = length x ∷ crc32 x ∷ []

-- 1 and the counts, or zeros
abbrev pub scan_answer : Option Report → List ℕ
scan_answer (Some r) = 1 ∷ r.words ∷ r.corrected ∷ r.uncorrectable ∷ []
scan_answer None = 0 ∷ 0 ∷ 0 ∷ 0 ∷ []
