-- The figures of FORMAT 12 in one table, each computed. Assumes nothing.
use mathlib.Core.Path.{◌≡◌, refl}
use mathlib.Core.List.{List, [], ◌∷◌}
use Prim.Native.Nat.{◌^◌}
use lib.Count.{ones}
use Rattle.bits.specs.Bit.{bit}
use Rattle.bits.specs.Linear.{xor_columns}
use Rattle.model.specs.Layout.{maj3, header_length}
use Rattle.model.specs.Writer.{Row, regions, planes, row_entries, plane_entry, plane_entries, row_words_lem, planes_words, plan_directory, image_length}
use Rattle.model.specs.Parity.{columns, check_of, syndrome, find, is_odd_lem, class_of, decode, flip_word, outcome, clean_word, corrected_word, uncorrectable_word}

-- a row of kind 1, flagged 2, of one word
abbrev row : List Row
row = record { kind = 1; flags = 2; words = 1 } ∷ []

pub figures :
    (check_of 0 ≡ 0)
    × (check_of 1 ≡ 7)
    × (check_of 2 ≡ 11)
    × (check_of 3 ≡ 12)
    × (check_of (2 ^ 55) ≡ 224)
    × (check_of (2 ^ 63) ≡ 87)
    × (outcome 1 7 ≡ clean_word 1)
    × (outcome 0 7 ≡ corrected_word 1)
    × (outcome 0 1 ≡ corrected_word 0)
    × (outcome 0 3 ≡ uncorrectable_word)
    × (outcome 0 91 ≡ uncorrectable_word)
    × (outcome 0 127 ≡ uncorrectable_word)
    × (maj3 1 2 3 ≡ 3)
    × (header_length (regions row) ≡ 144)
    × (plan_directory row ≡
    record { kind = 1; flags = 2; offset = 18; words = 1; covers = 0; reserved = 0 }
    ∷ record { kind = 0x8001; flags = 8; offset = 19; words = 1; covers = 1; reserved = 0 } ∷ [])
    × (image_length row ≡ 160)
unfolding regions planes plan_directory row_entries plane_entries plane_entry row_words_lem planes_words image_length check_of columns xor_columns bit outcome decode syndrome class_of is_odd_lem ones find flip_word
figures = (refl, refl, refl, refl, refl, refl, refl, refl, refl, refl, refl, refl, refl, refl, refl, refl)
