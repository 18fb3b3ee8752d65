-- There is one remainder, so there is one CRC. Assumes nothing.
use mathlib.Core.Path.{◌≡◌, refl, sym, ap, ap₂, ◌∙◌, subst}
use mathlib.Core.Logic.{◌⊎◌, inl, inr}
use mathlib.Core.Bool.{Bool, true, false}
use mathlib.Core.List.{List, [], ◌∷◌}
use Prim.Native.Nat.{ℕ, ◌-◌, ◌*◌, ◌/◌, ◌^◌, ◌≤◌, ◌<◌}
use native.Mathlib.Omega.{arith}
use lib.Dec.{lit≤}
use lib.Bits.{bit_xor, xor_lt, xor_self, xor_zero_r, xor_shr}
use Rattle.bits.specs.Bit.{xor_b}
use Rattle.bits.specs.Linear.{pick}
use Rattle.bits.proofs.LinearLaw.{pick_xor, xor_swap, xor_double, xor_eq}
use Rattle.model.specs.Crc.{G, all_ones, product, Remainder, sent, dividend, reflect, Crc32, crc32}
use Rattle.model.proofs.CrcDivision.{crc_is_802_3}

-- the sum of two polynomials, by their coefficients
sum : List Bool → List Bool → List Bool
sum [] ys = ys
sum (x ∷ xs) [] = x ∷ xs
sum (x ∷ xs) (y ∷ ys) = xor_b x y ∷ sum xs ys

product_sum : (g : ℕ) (xs ys : List Bool) → product (sum xs ys) g ≡ bit_xor (product xs g) (product ys g)
unfolding product sum
product_sum g [] ys = refl
product_sum g (x ∷ xs) [] = sym (xor_zero_r (bit_xor (pick x g) (product xs g * 2)))
product_sum g (x ∷ xs) (y ∷ ys) =
    ap₂ bit_xor (pick_xor x y g) (ap (λ (n : ℕ). n * 2) (product_sum g xs ys) ∙ xor_double (product xs g) (product ys g))
    ∙ xor_swap (pick x g) (pick y g) (product xs g * 2) (product ys g * 2)

-- a multiple of G is 0, or has x^32 or a higher power
multiple : (qs : List Bool) → (product qs G ≡ 0) ⊎ (2 ^ 32 ≤ product qs G)
unfolding product
multiple [] = inl refl
multiple (q ∷ qs) = go q (product qs G) (multiple qs)
  where
    none : (t : Bool) → pick t G / 2 ^ 33 ≡ 0
    none true = refl
    none false = refl

    alone : (t : Bool) → (bit_xor (pick t G) 0 ≡ 0) ⊎ (2 ^ 32 ≤ bit_xor (pick t G) 0)
    alone true = inr (lit≤ tt)
    alone false = inl refl

    go : (t : Bool) (p : ℕ) → (p ≡ 0) ⊎ (2 ^ 32 ≤ p) → (bit_xor (pick t G) (p * 2) ≡ 0) ⊎ (2 ^ 32 ≤ bit_xor (pick t G) (p * 2))
    go t p (inl e) = subst (λ (n : ℕ). (bit_xor (pick t G) (n * 2) ≡ 0) ⊎ (2 ^ 32 ≤ bit_xor (pick t G) (n * 2))) (sym e) (alone t)
    go t p (inr h) =
        inr (omega (arith, xor_shr (pick t G) (p * 2) 33 ∙ ap (λ (n : ℕ). bit_xor n (p * 2 / 2 ^ 33)) (none t)))

-- of the numbers below 2 ^ 32; `register_divides` of CrcDivision has one
pub one_remainder : (d r r' : ℕ) → Remainder d r → Remainder d r' → r ≡ r'
one_remainder d r r' v v' = go (multiple (sum v.quotient v'.quotient))
  where
    p : ℕ
    p = product v.quotient G

    p' : ℕ
    p' = product v'.quotient G

    -- p + r = p' + r', so p + p' = r + r'
    both : bit_xor p p' ≡ bit_xor r r'
    both =
        xor_eq (bit_xor p p') (bit_xor r r')
        (xor_swap p p' r r' ∙ ap₂ bit_xor (sym v.split) (sym v'.split) ∙ xor_self d)

    low : bit_xor r r' < 2 ^ 32
    low = xor_lt 32 r r' v.small v'.small

    is : product (sum v.quotient v'.quotient) G ≡ bit_xor r r'
    is = product_sum G v.quotient v'.quotient ∙ both

    go : (product (sum v.quotient v'.quotient) G ≡ 0) ⊎ (2 ^ 32 ≤ product (sum v.quotient v'.quotient) G) → r ≡ r'
    go (inl e) = xor_eq r r' (sym is ∙ e)
    go (inr h) = absurd (omega (arith, is, low))

pub one_crc : (message : List ℕ) (c c' : ℕ) → Crc32 message c → Crc32 message c' → c ≡ c'
one_crc message c c' v v' =
    v.is
    ∙ ap (λ (r : ℕ). reflect 32 (all_ones - r))
    (one_remainder (dividend (sent message)) v.remainder v'.remainder v.divided v'.divided)
    ∙ sym v'.is

-- what is a message's CRC is `crc32` of it
pub crc_is : (message : List ℕ) (c : ℕ) → Crc32 message c → c ≡ crc32 message
crc_is message c v = one_crc message c (crc32 message) v (crc_is_802_3 message)
