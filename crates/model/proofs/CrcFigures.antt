-- The checksum's figures: the generator by its exponents, the polynomial reflected, the empty message and the check value,
-- each computed. Assumes nothing.
use mathlib.Core.Path.{◌≡◌, refl}
use mathlib.Core.List.{List, [], ◌∷◌}
use Prim.Native.Nat.{ℕ, ◌+◌, ◌-◌, ◌^◌}
use Rattle.bits.specs.Bit.{bit}
use Rattle.model.specs.Crc.{G, sent, bits_low, reflect, POLY, step_r, serial_r, crc32}

-- the polynomial of some exponents, each named once
abbrev pub powers : List ℕ → ℕ
powers [] = 0
powers (e ∷ es) = 2 ^ e + powers es

-- IEEE 802.3 writes G(x) by these exponents
pub generator : G ≡ powers (32 ∷ 26 ∷ 23 ∷ 22 ∷ 16 ∷ 12 ∷ 11 ∷ 10 ∷ 8 ∷ 7 ∷ 5 ∷ 4 ∷ 2 ∷ 1 ∷ 0 ∷ [])
generator = refl

pub poly_reflected : reflect 32 (G - 2 ^ 32) ≡ POLY
unfolding reflect bit
poly_reflected = refl

pub crc_empty : crc32 [] ≡ 0
unfolding crc32 serial_r sent
crc_empty = refl

-- of the message "123456789"
pub check_value : crc32 (49 ∷ 50 ∷ 51 ∷ 52 ∷ 53 ∷ 54 ∷ 55 ∷ 56 ∷ 57 ∷ []) ≡ 0xCBF43926
unfolding crc32 serial_r sent bits_low step_r bit
check_value = refl
