-- The majority of three bits, and of three numbers at each bit.
use Rattle.std.specs.Prelude.{◌≡◌, Bool, true, false, ℕ, ◌+◌}
use Rattle.bits.specs.Bit.{bit, num, xor_b}

-- what two or more of three say
abbrev pub majority3 : Bool → Bool → Bool → Bool
majority3 true true z = true
majority3 true false z = z
majority3 false true z = z
majority3 false false z = false

-- each bit of r is what most of a, b and c have there
pub record Majority (a b c r : ℕ) : Type 0 where
  pub at : (i : ℕ) → bit r i ≡ majority3 (bit a i) (bit b i) (bit c i)

-- how many of three differ from v
abbrev pub wrong : Bool → Bool → Bool → Bool → ℕ
wrong v x y z = num (xor_b x v) + num (xor_b y v) + num (xor_b z v)
