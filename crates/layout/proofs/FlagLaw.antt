-- A flag test, as code has it, asks for one bit. Assumes nothing.
use mathlib.Core.Path.{◌≡◌, refl, sym, ap, ap₂, ◌∙◌}
use mathlib.Core.Bool.{not}
use Prim.Native.Nat.{ℕ, zero, suc, ◌+◌, ◌*◌, ◌/◌, ◌%◌, ◌^◌, min}
use native.Mathlib.Omega.{arith}
use native.Mathlib.Nat.{min-zero}
use borrow.Author.Tests.{eq-eqb, ne_eqb}
use lib.Bits.{bit_and, and_step, and_mask}
use lib.Dec.{eqb}
use Rattle.bits.specs.Bit.{is_one, bit}
use Rattle.bits.proofs.BitLaw.{bit_zero, bit_suc, pow_half, pow_even}

digit : (n : ℕ) → not (eqb n 0) ≡ is_one n
digit zero = refl
digit (suc n) = ap not (ne_eqb (suc n) 0 (λ e. omega arith))

doubled : (n d : ℕ) → eqb (n * 2 + min d 0) 0 ≡ eqb n 0
doubled zero d = eq-eqb (0 * 2 + min d 0) 0 (omega (arith, min-zero d))
doubled (suc n) d = ne_eqb (suc n * 2 + min d 0) 0 (λ e. omega arith) ∙ sym (ne_eqb (suc n) 0 (λ e. omega arith))

pub flag : (i a : ℕ) → not (eqb (bit_and a (2 ^ i)) 0) ≡ bit a i
flag zero a = ap (λ (n : ℕ). not (eqb n 0)) (and_mask a 1) ∙ digit (a % 2) ∙ sym (bit_zero a)
flag (suc i) a =
    ap (λ (n : ℕ). not (eqb n 0))
    (and_step a (2 ^ suc i) ∙ ap₂ (λ (m d : ℕ). bit_and (a / 2) m * 2 + min (a % 2) d) (pow_half i) (pow_even i))
    ∙ ap not (doubled (bit_and (a / 2) (2 ^ i)) (a % 2))
    ∙ flag i (a / 2)
    ∙ sym (bit_suc a i)
