-- The register of the checksum: that a step is linear, that a step of the reflected register is the product with x modulo G,
-- and that the bits of a byte may be put in all at first. Assumes nothing.
use mathlib.Core.Path.{◌≡◌, refl, sym, ap, ap₂, ◌∙◌, subst}
use mathlib.Core.Bool.{Bool, true, false}
use mathlib.Core.List.{List, [], ◌∷◌, ◌++◌}
use Prim.Native.Nat.{ℕ, zero, suc, ◌+◌, ◌-◌, ◌*◌, ◌/◌, ◌^◌, ◌≤◌, ◌<◌}
use native.Mathlib.Nat.{mul-div_cancel, mul-mod_left, pow-suc, div-lt_iff_lt-mul, div-le_self, lt_of_le_of_lt}
use native.Mathlib.Omega.{arith}
use native.Mathlib.Numerals.{add-one}
use lib.Dec.{lit<}
use lib.Arith.{lt-one}
use lib.Bits.{bit_xor, xor_lt, xor_zero_r}
use lib.ListN.{length, get_or, drop}
use lib.Seq.{drop-cons, drop-length}
use Rattle.bits.specs.Bit.{bit, num, is_one}
use Rattle.bits.specs.Linear.{pick, Linear}
use Rattle.bits.proofs.BitLaw.{bit_xor_lem, xor_half, xor_assoc}
use Rattle.bits.proofs.LinearLaw.{pick_xor, xor_swap, linear_ext, composed, by_low, xor_double}
use Rattle.model.specs.Crc.{G, bits_low, sent, reflect, POLY, step_r, serial_r}

-- ---- one step of the reflected register, and of the plain one

-- times x, less G where x^32 comes up
unfoldable pub mulx : ℕ → ℕ
mulx r = bit_xor (r * 2) (pick (bit r 31) G)

pub step_r_linear : Linear step_r
unfolding step_r
step_r_linear =
    record {
      adds = λ a b.
          ap₂ bit_xor (xor_half a b) (ap (λ (t : Bool). pick t POLY) (bit_xor_lem a b 0) ∙ pick_xor (bit a 0) (bit b 0) POLY)
          ∙ xor_swap (a / 2) (b / 2) (pick (bit a 0) POLY) (pick (bit b 0) POLY);
    }

pub mulx_linear : Linear mulx
unfolding mulx
mulx_linear =
    record {
      adds = λ a b.
          ap₂ bit_xor (xor_double a b) (ap (λ (t : Bool). pick t G) (bit_xor_lem a b 31) ∙ pick_xor (bit a 31) (bit b 31) G)
          ∙ xor_swap (a * 2) (b * 2) (pick (bit a 31) G) (pick (bit b 31) G);
    }

pub reflect_linear : (k : ℕ) → Linear (reflect k)
unfolding reflect
reflect_linear zero = record { adds = λ a b. refl }
reflect_linear (suc k) =
    record {
      adds = λ a b.
          ap₂ bit_xor (ap (λ (t : Bool). pick t (2 ^ k)) (bit_xor_lem a b 0) ∙ pick_xor (bit a 0) (bit b 0) (2 ^ k))
          (ap (reflect k) (xor_half a b) ∙ (reflect_linear k).adds (a / 2) (b / 2))
          ∙ xor_swap (pick (bit a 0) (2 ^ k)) (pick (bit b 0) (2 ^ k)) (reflect k (a / 2)) (reflect k (b / 2));
    }

-- by the values at the 32 powers of two, which are computed
pub step_mulx : (s : ℕ) → s < 2 ^ 32 → reflect 32 (step_r s) ≡ mulx (reflect 32 s)
unfolding reflect step_r mulx bit
step_mulx =
    linear_ext (λ s. reflect 32 (step_r s)) (λ s. mulx (reflect 32 s))
    (composed (reflect 32) step_r (reflect_linear 32) step_r_linear)
    (composed mulx (reflect 32) mulx_linear (reflect_linear 32))
    32 refl

pub step_lt : (s : ℕ) → s < 2 ^ 32 → step_r s < 2 ^ 32
unfolding step_r
step_lt s h = xor_lt 32 (s / 2) (pick (bit s 0) POLY) (lt_of_le_of_lt (div-le_self s 2) h) (low (bit s 0))
  where
    low : (t : Bool) → pick t POLY < 2 ^ 32
    low true = lit< tt
    low false = lit< tt

pub num_lt : (b : Bool) → num b < 2 ^ 32
num_lt true = lit< tt
num_lt false = lit< tt

pub serial_r_lt : (s : ℕ) (bs : List Bool) → s < 2 ^ 32 → serial_r s bs < 2 ^ 32
unfolding serial_r
serial_r_lt s [] h = h
serial_r_lt s (b ∷ bs) h = serial_r_lt (step_r (bit_xor s (num b))) bs (step_lt (bit_xor s (num b)) (xor_lt 32 s (num b) h (num_lt b)))

-- ---- a bit at a time, and a byte at a time

-- k steps with no bit put in
unfoldable pub run : ℕ → ℕ → ℕ
run zero s = s
run (suc k) s = run k (step_r s)

-- an even number only moves down
pub step_even : (n : ℕ) → step_r (n * 2) ≡ n
unfolding step_r bit
step_even n =
    ap₂ (λ (x y : ℕ). bit_xor x (pick (is_one y) POLY)) (mul-div_cancel n (lit< tt)) (mul-mod_left n 2) ∙ xor_zero_r n

-- the bits of b, all put in at first, are put in one by one
pub run_serial : (k s b : ℕ) → b < 2 ^ k → run k (bit_xor s b) ≡ serial_r s (bits_low k b)
unfolding run serial_r bits_low
run_serial zero s b h = ap (bit_xor s) (lt-one h) ∙ xor_zero_r s
run_serial (suc k) s b h =
    ap (λ (x : ℕ). run k (step_r x)) (ap (bit_xor s) (by_low b) ∙ sym (xor_assoc s (num (bit b 0)) (b / 2 * 2)))
    ∙ ap (run k) (step_r_linear.adds (bit_xor s (num (bit b 0))) (b / 2 * 2)
    ∙ ap (bit_xor (step_r (bit_xor s (num (bit b 0))))) (step_even (b / 2)))
    ∙ run_serial k (step_r (bit_xor s (num (bit b 0)))) (b / 2)
    ((div-lt_iff_lt-mul (lit< tt)).1 (subst (λ (x : ℕ). b < x) (pow-suc 2 k) h))

pub serial_append : (s : ℕ) (xs ys : List Bool) → serial_r s (xs ++ ys) ≡ serial_r (serial_r s xs) ys
unfolding serial_r
serial_append s [] ys = refl
serial_append s (x ∷ xs) ys = serial_append (step_r (bit_xor s (num x))) xs ys

-- ---- the laws of a loop: from place i on, what is left takes the register s to one end

-- one of the steps of a byte
pub run_turn : (n k t : ℕ) → k < n → run (n - k) t ≡ run (n - (k + 1)) (step_r t)
unfolding run
run_turn n k t h = let e : n - k ≡ suc (n - (k + 1)) = omega arith in ap (λ (m : ℕ). run m t) e

pub run_done : (n k t : ℕ) → n ≤ k → run (n - k) t ≡ t
unfolding run
run_done n k t h = let e : n - k ≡ 0 = omega arith in ap (λ (m : ℕ). run m t) e

-- a byte of those that are left
pub byte_turn : (l : List ℕ) (i s : ℕ) → i < length l
    → serial_r s (sent (drop i l)) ≡ serial_r (serial_r s (bits_low 8 (get_or l i 0))) (sent (drop (i + 1) l))
unfolding sent
byte_turn l i s h =
    ap (λ (m : List ℕ). serial_r s (sent m)) (drop-cons l i 0 h)
    ∙ serial_append s (bits_low 8 (get_or l i 0)) (sent (drop (suc i) l))
    ∙ ap (λ (n : ℕ). serial_r (serial_r s (bits_low 8 (get_or l i 0))) (sent (drop n l))) (sym (add-one i))

pub bytes_done : (l : List ℕ) (i s : ℕ) → i ≡ length l → serial_r s (sent (drop i l)) ≡ s
unfolding sent serial_r
bytes_done l i s e = ap (λ (n : ℕ). serial_r s (sent (drop n l))) e ∙ ap (λ (m : List ℕ). serial_r s (sent m)) (drop-length l)
