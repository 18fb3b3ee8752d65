-- The laws of `xor_columns`, and that a linear map is known by its values at the powers of two. Assumes nothing.
use mathlib.Core.Path.{◌≡◌, refl, sym, ap, ap₂, ◌∙◌, subst}
use mathlib.Core.Bool.{Bool, true, false}
use mathlib.Core.List.{List, [], ◌∷◌}
use Prim.Native.Nat.{ℕ, zero, suc, ◌*◌, ◌/◌, ◌^◌, ◌<◌}
use native.Mathlib.Nat.{add-zero, pow-suc, div-lt_iff_lt-mul}
use lib.Dec.{lit<}
use lib.Arith.{lt-one}
use lib.Pow.{pow_pos}
use lib.Bits.{bit_xor, xor_self, xor_zero_r, xor_comm, xor_block, xor_shifted}
use lib.ListN.{get_or}
use Rattle.bits.specs.Bit.{is_one, num, xor_b, bit}
use Rattle.bits.specs.Linear.{pick, xor_columns, Linear, values}
use Rattle.bits.proofs.BitLaw.{halves, bit_xor_lem, xor_half, xor_assoc, pow_half, pow_even}

pub pick_xor : (x y : Bool) (c : ℕ) → pick (xor_b x y) c ≡ bit_xor (pick x c) (pick y c)
pick_xor true true c = sym (xor_self c)
pick_xor true false c = sym (xor_zero_r c)
pick_xor false true c = refl
pick_xor false false c = refl

pub xor_swap : (a b c d : ℕ) → bit_xor (bit_xor a b) (bit_xor c d) ≡ bit_xor (bit_xor a c) (bit_xor b d)
xor_swap a b c d =
    xor_assoc a b (bit_xor c d)
    ∙ ap (bit_xor a) (sym (xor_assoc b c d) ∙ ap (λ (x : ℕ). bit_xor x d) (xor_comm b c) ∙ xor_assoc c b d)
    ∙ sym (xor_assoc a c (bit_xor b d))

pub xor_columns_xor : (cs : List ℕ) (a b : ℕ) → xor_columns cs (bit_xor a b) ≡ bit_xor (xor_columns cs a) (xor_columns cs b)
unfolding xor_columns
xor_columns_xor [] a b = refl
xor_columns_xor (c ∷ cs) a b =
    ap₂ bit_xor
    (ap (λ (x : Bool). pick x c) (bit_xor_lem a b 0) ∙ pick_xor (bit a 0) (bit b 0) c)
    (ap (xor_columns cs) (xor_half a b) ∙ xor_columns_xor cs (a / 2) (b / 2))
    ∙ xor_swap (pick (bit a 0) c) (pick (bit b 0) c) (xor_columns cs (a / 2)) (xor_columns cs (b / 2))

pub xor_columns_zero : (cs : List ℕ) → xor_columns cs 0 ≡ 0
unfolding xor_columns bit
xor_columns_zero [] = refl
xor_columns_zero (c ∷ cs) = xor_columns_zero cs

pub xor_columns_pow : (cs : List ℕ) (i : ℕ) → xor_columns cs (2 ^ i) ≡ get_or cs i 0
unfolding xor_columns bit
xor_columns_pow [] i = refl
xor_columns_pow (c ∷ cs) zero = ap (bit_xor c) (xor_columns_zero cs) ∙ xor_zero_r c
xor_columns_pow (c ∷ cs) (suc i) =
    ap₂ (λ (x y : ℕ). bit_xor (pick (is_one x) c) (xor_columns cs y)) (pow_even i) (pow_half i) ∙ xor_columns_pow cs i

-- one bit flipped
pub xor_columns_flip : (cs : List ℕ) (w i : ℕ) → xor_columns cs (bit_xor w (2 ^ i)) ≡ bit_xor (xor_columns cs w) (get_or cs i 0)
xor_columns_flip cs w i = xor_columns_xor cs w (2 ^ i) ∙ ap (bit_xor (xor_columns cs w)) (xor_columns_pow cs i)

-- what is put in twice is gone
pub xor_undo : (a b : ℕ) → bit_xor (bit_xor a b) b ≡ a
xor_undo a b = xor_assoc a b b ∙ ap (bit_xor a) (xor_self b) ∙ xor_zero_r a

pub xor_eq : (a b : ℕ) → bit_xor a b ≡ 0 → a ≡ b
xor_eq a b e = sym (xor_undo a b) ∙ ap (λ (x : ℕ). bit_xor x b) e

-- ---- a linear map is known by its values at the powers of two

pub linear_zero : (f : ℕ → ℕ) → Linear f → f 0 ≡ 0
linear_zero f l = l.adds 0 0 ∙ xor_self (f 0)

-- a shift passes through xor
pub xor_shl : (a b k : ℕ) → bit_xor a b * 2 ^ k ≡ bit_xor (a * 2 ^ k) (b * 2 ^ k)
xor_shl a b k =
    sym (sym (ap₂ bit_xor (add-zero (a * 2 ^ k)) (add-zero (b * 2 ^ k))) ∙ xor_block k a b 0 0 (pow_pos k) (pow_pos k) ∙ add-zero (bit_xor a b * 2 ^ k))

pub xor_double : (a b : ℕ) → bit_xor a b * 2 ≡ bit_xor (a * 2) (b * 2)
xor_double a b = xor_shl a b 1

-- (a + b) + c = (a + c) + b
pub xor_right_comm : (a b c : ℕ) → bit_xor (bit_xor a b) c ≡ bit_xor (bit_xor a c) b
xor_right_comm a b c = xor_assoc a b c ∙ ap (bit_xor a) (xor_comm b c) ∙ sym (xor_assoc a c b)

-- (t + p) + (x + t) = p + x
pub xor_ends : (t p x : ℕ) → bit_xor (bit_xor t p) (bit_xor x t) ≡ bit_xor p x
xor_ends t p x = ap (bit_xor (bit_xor t p)) (xor_comm x t) ∙ xor_swap t p t x ∙ ap (λ (z : ℕ). bit_xor z (bit_xor p x)) (xor_self t)

pub doubled : (f : ℕ → ℕ) → Linear f → Linear (λ n. f (n * 2))
doubled f l = record { adds = λ a b. ap f (xor_double a b) ∙ l.adds (a * 2) (b * 2) }

pub by_low : (n : ℕ) → n ≡ bit_xor (num (bit n 0)) (n / 2 * 2)
by_low n =
    halves n ∙ sym (xor_shifted (n / 2) 1 (num (bit n 0)) (num_lt (bit n 0))) ∙ xor_comm (n / 2 * 2) (num (bit n 0))
  where
    num_lt : (x : Bool) → num x < 2
    num_lt true = lit< tt
    num_lt false = lit< tt

pub at_num : (f : ℕ → ℕ) → Linear f → (x : Bool) → f (num x) ≡ pick x (f 1)
at_num f l true = refl
at_num f l false = linear_zero f l

pub linear_xor_columns : (f : ℕ → ℕ) → Linear f → (k n : ℕ) → n < 2 ^ k → f n ≡ xor_columns (values f k) n
unfolding xor_columns
linear_xor_columns f l zero n h = ap f (lt-one h) ∙ linear_zero f l
linear_xor_columns f l (suc k) n h =
    ap f (by_low n) ∙ l.adds (num (bit n 0)) (n / 2 * 2)
    ∙ ap₂ bit_xor (at_num f l (bit n 0)) (linear_xor_columns (λ m. f (m * 2)) (doubled f l) k (n / 2) (half_lt_pow k h))
  where
    half_lt_pow : (j : ℕ) → n < 2 ^ suc j → n / 2 < 2 ^ j
    half_lt_pow j p = (div-lt_iff_lt-mul (lit< tt)).1 (subst (λ (x : ℕ). n < x) (pow-suc 2 j) p)

-- two linear maps with the same values at the k powers are the same below 2 ^ k
pub linear_ext : (f g : ℕ → ℕ) → Linear f → Linear g → (k : ℕ) → values f k ≡ values g k → (n : ℕ) → n < 2 ^ k → f n ≡ g n
linear_ext f g lf lg k e n h = linear_xor_columns f lf k n h ∙ ap (λ (cs : List ℕ). xor_columns cs n) e ∙ sym (linear_xor_columns g lg k n h)

pub xor_columns_linear : (cs : List ℕ) → Linear (xor_columns cs)
xor_columns_linear cs = record { adds = xor_columns_xor cs }

pub composed : (f g : ℕ → ℕ) → Linear f → Linear g → Linear (λ n. f (g n))
composed f g lf lg = record { adds = λ a b. ap f (lg.adds a b) ∙ lf.adds (g a) (g b) }
