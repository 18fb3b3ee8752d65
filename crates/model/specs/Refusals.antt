-- The numbers given back, and the order in which refusals are looked for. (FORMAT 2)
use Rattle.std.specs.Prelude.{Bool, true, false, ℕ}

-- a refusal's number
abbrev pub truncated : ℕ
truncated = 1

abbrev pub bad_magic : ℕ
bad_magic = 2

abbrev pub foreign_endian : ℕ
foreign_endian = 3

abbrev pub unsupported_version : ℕ
unsupported_version = 4

abbrev pub bad_prologue_checksum : ℕ
bad_prologue_checksum = 5

abbrev pub too_many_regions : ℕ
too_many_regions = 6

abbrev pub region_out_of_bounds : ℕ
region_out_of_bounds = 7

abbrev pub duplicate_region : ℕ
duplicate_region = 8

abbrev pub bad_record_stride : ℕ
bad_record_stride = 9

abbrev pub overflow : ℕ
overflow = 10

abbrev pub too_large_lem : ℕ
too_large_lem = 11

abbrev pub overlapping_regions : ℕ
overlapping_regions = 12

abbrev pub no_room_lem : ℕ
no_room_lem = 13

abbrev pub bad_plan : ℕ
bad_plan = 14

abbrev pub bad_hex_line : ℕ
bad_hex_line = 15

abbrev pub hex_gap : ℕ
hex_gap = 16

-- what a check says: nothing is wrong, or a refusal's number and detail
pub data Verdict : Type 0 where
  fine : Verdict
  refuse : ℕ → ℕ → Verdict

-- the first of two verdicts that refuses
abbrev pub ◌then◌ : Verdict → Verdict → Verdict
fine then v = v
(refuse n d) then v = refuse n d

infixr 20 ◌then◌
-- refuse with number n and detail d if the test says so
abbrev pub refuse_if : Bool → ℕ → ℕ → Verdict
refuse_if true n d = refuse n d
refuse_if false n d = fine
