-- The laws of `bit`, and of bit_xor, bit_and and bit_or at each bit. Assumes nothing.
use mathlib.Core.Path.{◌≡◌, refl, sym, ap, ap₂, ◌∙◌, subst}
use native.Mathlib.Decide.{dec_lt}
use mathlib.Core.Bool.{Bool, true, false, ◌&&◌, ◌||◌}
use Prim.Native.Nat.{ℕ, zero, suc, ◌+◌, ◌*◌, ◌/◌, ◌%◌, ◌^◌, ◌≤◌, ◌<◌, min, max}
use native.Mathlib.Nat.{pow-suc, le_of_suc-le-suc, not-suc-le-zero, div-add-mod', mod-lt, mul-div_cancel, mul-mod_left, div-lt_iff_lt-mul}
use native.Mathlib.Omega.{arith}
use lib.Arith.{bin_ind, digits_div, digits_mod, lt-one}
use lib.Bits.{bit_xor, bit_and, bit_or, xor_step, and_step, or_step, differ, and_mask}
use lib.Dec.{lit<}
use Rattle.bits.specs.Bit.{is_one, num, xor_b, bit}

pub bit_zero : (a : ℕ) → bit a 0 ≡ is_one (a % 2)
unfolding bit
bit_zero a = refl

pub bit_suc : (a i : ℕ) → bit a (suc i) ≡ bit (a / 2) i
unfolding bit
bit_suc a i = refl

-- a digit is the number of its Bool
pub digit : (d : ℕ) → d < 2 → d ≡ num (is_one d)
digit zero h = refl
digit (suc zero) h = refl
digit (suc (suc d)) h = absurd (not-suc-le-zero (le_of_suc-le-suc (le_of_suc-le-suc h)))

pub low : (a : ℕ) → a % 2 ≡ num (is_one (a % 2))
low a = digit (a % 2) (mod-lt a (lit< tt))

pub halves : (a : ℕ) → a ≡ a / 2 * 2 + num (bit a 0)
unfolding bit
halves a = sym (div-add-mod' a 2) ∙ ap (λ (x : ℕ). a / 2 * 2 + x) (low a)

pub bit_none : (i : ℕ) → bit 0 i ≡ false
unfolding bit
bit_none zero = refl
bit_none (suc i) = bit_none i

-- two numbers with the same bits are the same
none : (b : ℕ) → ((i : ℕ) → bit b i ≡ false) → b ≡ 0
none =
    bin_ind (λ (n : ℕ). ((i : ℕ) → bit n i ≡ false) → n ≡ 0) (λ f. refl)
    (λ n ih f. halves n ∙ ap₂ (λ (x : ℕ) (y : Bool). x * 2 + num y) (ih (λ i. sym (bit_suc n i) ∙ f (suc i))) (f 0))

pub bit_ext : (a b : ℕ) → ((i : ℕ) → bit a i ≡ bit b i) → a ≡ b
bit_ext =
    bin_ind (λ (n : ℕ). (b : ℕ) → ((i : ℕ) → bit n i ≡ bit b i) → n ≡ b)
    (λ b f. sym (none b (λ i. sym (f i) ∙ bit_none i)))
    (λ n ih b f. halves n ∙ ap₂ (λ (x : ℕ) (y : Bool). x * 2 + num y)
    (ih (b / 2) (λ i. sym (bit_suc n i) ∙ f (suc i) ∙ bit_suc b i)) (f 0) ∙ sym (halves b))

-- an operation on the digits is one on the bits
module _ (op f : ℕ → ℕ → ℕ) (g : Bool → Bool → Bool)
    (step : (a b : ℕ) → op a b ≡ op (a / 2) (b / 2) * 2 + f (a % 2) (b % 2))
    (fits : (x y : Bool) → f (num x) (num y) ≡ num (g x y)) where
  num_lt : (x : Bool) → num x < 2
  num_lt true = lit< tt
  num_lt false = lit< tt

  is_one_num : (x : Bool) → is_one (num x) ≡ x
  is_one_num true = refl
  is_one_num false = refl

  stepped : (a b : ℕ) → op a b ≡ op (a / 2) (b / 2) * 2 + num (g (is_one (a % 2)) (is_one (b % 2)))
  stepped a b =
      step a b ∙ ap (λ (x : ℕ). op (a / 2) (b / 2) * 2 + x)
      (ap₂ f (low a) (low b) ∙ fits (is_one (a % 2)) (is_one (b % 2)))

  op_half : (a b : ℕ) → op a b / 2 ≡ op (a / 2) (b / 2)
  op_half a b = ap (λ (x : ℕ). x / 2) (stepped a b) ∙ digits_div (op (a / 2) (b / 2)) (num_lt (g (is_one (a % 2)) (is_one (b % 2))))

  bit_op : (a b i : ℕ) → bit (op a b) i ≡ g (bit a i) (bit b i)
  unfolding bit
  bit_op a b zero =
      ap (λ (x : ℕ). is_one (x % 2)) (stepped a b)
      ∙ ap is_one (digits_mod (op (a / 2) (b / 2)) (num_lt (g (is_one (a % 2)) (is_one (b % 2)))))
      ∙ is_one_num (g (is_one (a % 2)) (is_one (b % 2)))
  bit_op a b (suc i) = ap (λ (x : ℕ). bit x i) (op_half a b) ∙ bit_op (a / 2) (b / 2) i

xor_fits : (x y : Bool) → differ (num x) (num y) ≡ num (xor_b x y)
xor_fits true true = refl
xor_fits true false = refl
xor_fits false true = refl
xor_fits false false = refl

and_fits : (x y : Bool) → min (num x) (num y) ≡ num (x && y)
and_fits true true = refl
and_fits true false = refl
and_fits false true = refl
and_fits false false = refl

or_fits : (x y : Bool) → max (num x) (num y) ≡ num (x || y)
or_fits true true = refl
or_fits true false = refl
or_fits false true = refl
or_fits false false = refl

pub bit_xor_lem : (a b i : ℕ) → bit (bit_xor a b) i ≡ xor_b (bit a i) (bit b i)
bit_xor_lem = bit_op bit_xor differ xor_b xor_step xor_fits

pub bit_and_lem : (a b i : ℕ) → bit (bit_and a b) i ≡ bit a i && bit b i
bit_and_lem = bit_op bit_and min ◌&&◌ and_step and_fits

pub bit_or_lem : (a b i : ℕ) → bit (bit_or a b) i ≡ bit a i || bit b i
bit_or_lem = bit_op bit_or max ◌||◌ or_step or_fits

pub xor_half : (a b : ℕ) → bit_xor a b / 2 ≡ bit_xor (a / 2) (b / 2)
xor_half = op_half bit_xor differ xor_b xor_step xor_fits

-- ---- xor is associative, and undoes itself

xor_b_assoc : (x y z : Bool) → xor_b (xor_b x y) z ≡ xor_b x (xor_b y z)
xor_b_assoc false y z = refl
xor_b_assoc true false z = refl
xor_b_assoc true true false = refl
xor_b_assoc true true true = refl

pub xor_assoc : (a b c : ℕ) → bit_xor (bit_xor a b) c ≡ bit_xor a (bit_xor b c)
xor_assoc a b c =
    bit_ext (bit_xor (bit_xor a b) c) (bit_xor a (bit_xor b c))
    (λ i. bit_xor_lem (bit_xor a b) c i ∙ ap (λ (x : Bool). xor_b x (bit c i)) (bit_xor_lem a b i)
    ∙ xor_b_assoc (bit a i) (bit b i) (bit c i)
    ∙ sym (bit_xor_lem a (bit_xor b c) i ∙ ap (λ (x : Bool). xor_b (bit a i) x) (bit_xor_lem b c i)))

-- ---- a power of two

pub pow_half : (i : ℕ) → 2 ^ suc i / 2 ≡ 2 ^ i
pow_half i = ap (λ (x : ℕ). x / 2) (pow-suc 2 i) ∙ mul-div_cancel (2 ^ i) (lit< tt)

pub pow_even : (i : ℕ) → 2 ^ suc i % 2 ≡ 0
pow_even i = ap (λ (x : ℕ). x % 2) (pow-suc 2 i) ∙ mul-mod_left (2 ^ i) 2

-- ---- a number below 2 ^ k has no bit from k on

pub bit_high : (k a i : ℕ) → a < 2 ^ k → k ≤ i → bit a i ≡ false
bit_high zero a i h l = ap (λ (x : ℕ). bit x i) (lt-one h) ∙ bit_none i
bit_high (suc k) a zero h l = absurd (not-suc-le-zero l)
bit_high (suc k) a (suc i) h l = bit_suc a i ∙ bit_high k (a / 2) i (half_lt_pow k h) (le_of_suc-le-suc l)
  where
    half_lt_pow : (j : ℕ) → a < 2 ^ suc j → a / 2 < 2 ^ j
    half_lt_pow j p = (div-lt_iff_lt-mul (lit< tt)).1 (subst (λ (x : ℕ). a < x) (pow-suc 2 j) p)

-- two numbers below 2 ^ k are equal by their k low bits
pub bit_ext_below : (k a b : ℕ) → a < 2 ^ k → b < 2 ^ k → ((i : ℕ) → i < k → bit a i ≡ bit b i) → a ≡ b
bit_ext_below k a b ha hb f = bit_ext a b (λ i. pick_one i (dec_lt i k))
  where
    pick_one : (i : ℕ) → Dec (i < k) → bit a i ≡ bit b i
    pick_one i (yes l) = f i l
    pick_one i (no g) = bit_high k a i ha (omega arith) ∙ sym (bit_high k b i hb (omega arith))

-- ---- a test of the lowest bit, as code has it

pub low_on : (x : ℕ) → bit_and x 1 ≡ 1 → bit x 0 ≡ true
low_on x e = bit_zero x ∙ ap is_one (sym (and_mask x 1) ∙ e)

pub low_off : (x : ℕ) → (bit_and x 1 ≡ 1 → ⊥) → bit x 0 ≡ false
low_off x f = let n : x % 2 ≡ 1 → ⊥ = (λ e. f (and_mask x 1 ∙ e)) in let z : x % 2 ≡ 0 = omega arith in bit_zero x ∙ ap is_one z
