-- What is said of a refusal: a sentence that ends with its name. (FORMAT 14)
use Rattle.std.specs.Prelude.{List, ◌++◌, ℕ}
use Prim.Native.String.{String}
use Rattle.model.specs.Programs.{text, decimal}
use Rattle.error.specs.declared.Refusal.{Refusal}
use Rattle.error.specs.declared.Refusal.TheVariants.{Truncated, BadMagic, ForeignEndian, UnsupportedVersion, BadPrologueChecksum, TooManyRegions, RegionOutOfBounds, DuplicateRegion, BadRecordStride, Overflow, TooLarge, OverlappingRegions, NoRoom, BadPlan, BadHexLine, HexGap}

-- a number within a text
abbrev pub around : String → ℕ → String → List ℕ
around before n after = text before ++ (decimal n ++ text after)

-- no image is refused with the last five: record tables give BadRecordStride, nothing gives Overflow, the writer gives the others
unfoldable pub sentence : Refusal → List ℕ
sentence Truncated = text "the image ends inside its header (Truncated)"
sentence BadMagic = text "not a keleusma-wire image (BadMagic)"
sentence ForeignEndian = text "the byte order is not little-endian (ForeignEndian)"
sentence (UnsupportedVersion d) = around "version " d " of the format is not supported (UnsupportedVersion)"
sentence BadPrologueChecksum = text "the header's checksum is wrong (BadPrologueChecksum)"
sentence (TooManyRegions d) = around "" d " regions are more than 1024 (TooManyRegions)"
sentence (RegionOutOfBounds d) = around "entry " d " ends past the image (RegionOutOfBounds)"
sentence (DuplicateRegion d) = around "kind " d " stands twice in the directory (DuplicateRegion)"
sentence (OverlappingRegions d) = around "entry " d " lies on the header or on an earlier region (OverlappingRegions)"
sentence BadRecordStride = text "the stride of a table does not fit (BadRecordStride)"
sentence Overflow = text "a size has more than 64 bits (Overflow)"
sentence TooLarge = text "the image would be too large (TooLarge)"
sentence NoRoom = text "there is no room for the image (NoRoom)"
sentence (BadPlan d) = around "row " d " of the plan is wrong (BadPlan)"
sentence (BadHexLine d) = around "line " d " is no line of a hex text (BadHexLine)"
sentence (HexGap d) = around "line " d " does not go on where the bytes before it end (HexGap)"
