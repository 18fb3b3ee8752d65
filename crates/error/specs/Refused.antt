-- A refusal as the model gives it, its number and its detail, and a check's verdict. (FORMAT 2)
use Rattle.std.specs.Prelude.{ℕ, Result, Ok, Err}
use Rattle.model.specs.Refusals.{truncated, bad_magic, foreign_endian, unsupported_version, bad_prologue_checksum, too_many_regions, region_out_of_bounds, duplicate_region, bad_record_stride, overflow, too_large_lem, overlapping_regions, no_room_lem, bad_plan, bad_hex_line, hex_gap, Verdict, fine, refuse}
use Rattle.error.specs.declared.Refusal.{Refusal}
use Rattle.error.specs.declared.Refusal.TheVariants.{Truncated, BadMagic, ForeignEndian, UnsupportedVersion, BadPrologueChecksum, TooManyRegions, RegionOutOfBounds, DuplicateRegion, BadRecordStride, Overflow, TooLarge, OverlappingRegions, NoRoom, BadPlan, BadHexLine, HexGap}

abbrev pub number_of : Refusal → ℕ
number_of Truncated = truncated
number_of BadMagic = bad_magic
number_of ForeignEndian = foreign_endian
number_of (UnsupportedVersion d) = unsupported_version
number_of BadPrologueChecksum = bad_prologue_checksum
number_of (TooManyRegions d) = too_many_regions
number_of (RegionOutOfBounds d) = region_out_of_bounds
number_of (DuplicateRegion d) = duplicate_region
number_of BadRecordStride = bad_record_stride
number_of Overflow = overflow
number_of TooLarge = too_large_lem
number_of (OverlappingRegions d) = overlapping_regions
number_of NoRoom = no_room_lem
number_of (BadPlan d) = bad_plan
number_of (BadHexLine d) = bad_hex_line
number_of (HexGap d) = hex_gap

abbrev pub detail_of : Refusal → ℕ
detail_of Truncated = 0
detail_of BadMagic = 0
detail_of ForeignEndian = 0
detail_of (UnsupportedVersion d) = d
detail_of BadPrologueChecksum = 0
detail_of (TooManyRegions d) = d
detail_of (RegionOutOfBounds d) = d
detail_of (DuplicateRegion d) = d
detail_of BadRecordStride = 0
detail_of Overflow = 0
detail_of TooLarge = 0
detail_of (OverlappingRegions d) = d
detail_of NoRoom = 0
detail_of (BadPlan d) = d
detail_of (BadHexLine d) = d
detail_of (HexGap d) = d

abbrev pub as_verdict : Refusal → Verdict
as_verdict r = refuse (number_of r) (detail_of r)

abbrev pub as_check : Result Unit Refusal → Verdict
as_check (Ok done) = fine
as_check (Err r) = as_verdict r
