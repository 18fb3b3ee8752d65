-- The checksum: CRC-32 of IEEE 802.3, as the remainder of a polynomial over GF(2). (FORMAT 4)
-- A polynomial is a number: bit i is the coefficient of x^i. The sum is `bit_xor`, and `* 2` is the product with x.
use Rattle.std.specs.Prelude.{◌≡◌, Bool, List, [], ◌∷◌, ◌++◌, ℕ, zero, suc, ◌-◌, ◌*◌, ◌/◌, ◌^◌, ◌<◌, length}
use Rattle.std.specs.Int.Bits.{bit_xor}
use Rattle.bits.specs.Bit.{bit, num}
use Rattle.bits.specs.Linear.{pick}

-- x^32 + x^26 + x^23 + x^22 + x^16 + x^12 + x^11 + x^10 + x^8 + x^7 + x^5 + x^4 + x^2 + x + 1
abbrev pub G : ℕ
G = 0x104C11DB7

-- x^31 + .. + 1
abbrev pub all_ones : ℕ
all_ones = 0xFFFFFFFF

-- the product of q, its coefficients from x^0 on, with g
unfoldable pub product : List Bool → ℕ → ℕ
product [] g = 0
product (q ∷ qs) g = bit_xor (pick q g) (product qs g * 2)

-- r is what is left of d when it is divided by G
pub record Remainder (d r : ℕ) : Type 0 where
  pub quotient : List Bool
  pub small : r < 2 ^ 32
  pub split : d ≡ bit_xor (product quotient G) r

-- the k low bits of b, lowest first
unfoldable pub bits_low : ℕ → ℕ → List Bool
bits_low zero b = []
bits_low (suc k) b = bit b 0 ∷ bits_low k (b / 2)

-- a message in the order in which it is sent: each byte with its lowest bit first
unfoldable pub sent : List ℕ → List Bool
sent [] = []
sent (b ∷ bs) = bits_low 8 b ++ sent bs

-- m with the bits put behind it as lower coefficients: the bit sent first is the highest
unfoldable pub poly : ℕ → List Bool → ℕ
poly m [] = m
poly m (b ∷ bs) = poly (bit_xor (m * 2) (num b)) bs

-- x^32 M(x) + x^n (x^31 + .. + 1), with M the polynomial of the n bits
unfoldable pub dividend : List Bool → ℕ
dividend bs = bit_xor (poly 0 bs * 2 ^ 32) (all_ones * 2 ^ length bs)

-- the k low bits of n in reverse: bit 0 becomes bit k - 1, and the bits above it are the k - 1 low ones in reverse
unfoldable pub reflect : ℕ → ℕ → ℕ
reflect zero n = 0
reflect (suc k) n = bit_xor (pick (bit n 0) (2 ^ k)) (reflect k (n / 2))

-- c is the CRC of a message: the remainder, complemented, and read with the coefficient of x^31 as the lowest bit
pub record Crc32 (message : List ℕ) (c : ℕ) : Type 0 where
  pub remainder : ℕ
  pub divided : Remainder (dividend (sent message)) remainder
  pub is : c ≡ reflect 32 (all_ones - remainder)

-- ---- the number that is the CRC (`crc_is_802_3` and `one_crc` in proofs/), by the register of 32 bits that is moved down a bit at a time

-- G without x^32, its coefficients in reverse
abbrev pub POLY : ℕ
POLY = 0xEDB88320

unfoldable pub step_r : ℕ → ℕ
step_r s = bit_xor (s / 2) (pick (bit s 0) POLY)

unfoldable pub serial_r : ℕ → List Bool → ℕ
serial_r s [] = s
serial_r s (b ∷ bs) = serial_r (step_r (bit_xor s (num b))) bs

unfoldable pub crc32 : List ℕ → ℕ
crc32 bs = all_ones - serial_r all_ones (sent bs)
