-- Steps of code, for the contracts of private functions.
use Rattle.std.specs.Prelude.{ℕ, ◌+◌, ◌-◌, ◌*◌, ◌/◌}
use Rattle.model.specs.Hex.{data_type, end_type, upper_type}
use Rattle.intel_hex.specs.declared.record.RecordType.{RecordType}
use Rattle.intel_hex.specs.declared.record.RecordType.TheVariants.{Data, End, Upper}

-- the number of a record's type
abbrev pub type_of : RecordType → ℕ
type_of Data = data_type
type_of End = end_type
type_of Upper = upper_type

-- the length of the text of n bytes
abbrev pub text_length : ℕ → ℕ
text_length n = 12 + 2 * n + 12 * ((n + 15) / 16) + 16 * ((n - 1) / 65536)
