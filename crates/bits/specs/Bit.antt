-- The bits of a number, as Bools.
use Rattle.std.specs.Prelude.{Bool, true, false, not, ℕ, zero, suc, ◌/◌, ◌%◌}

-- whether a number is not 0
abbrev pub is_one : ℕ → Bool
is_one zero = false
is_one (suc n) = true

abbrev pub num : Bool → ℕ
num false = 0
num true = 1

abbrev pub xor_b : Bool → Bool → Bool
xor_b false b = b
xor_b true b = not b

-- bit i of a: bit 0 says whether a is odd
unfoldable pub bit : ℕ → ℕ → Bool
bit a zero = is_one (a % 2)
bit a (suc i) = bit (a / 2) i
