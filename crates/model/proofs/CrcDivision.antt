-- The register is the remainder: `crc32` is the CRC-32 of IEEE 802.3. Assumes nothing.
use mathlib.Core.Path.{◌≡◌, refl, sym, ap, ap₂, ◌∙◌, subst}
use mathlib.Core.Bool.{Bool, true, false}
use mathlib.Core.List.{List, [], ◌∷◌}
use Prim.Native.Nat.{ℕ, zero, suc, ◌+◌, ◌-◌, ◌*◌, ◌/◌, ◌^◌, ◌<◌}
use native.Mathlib.Nat.{le_refl, pow-suc, mul_assoc, zero-add, add-zero, suc-add, add-suc, mod-eq_of_lt}
use native.Mathlib.Omega.{arith}
use lib.Dec.{lit<}
use lib.Bits.{bit_xor, xor_lt, xor_add_and, and_mask}
use lib.Pow.{pow_pos, pow-lt}
use lib.ListN.{length}
use Rattle.bits.specs.Bit.{bit, num}
use Rattle.bits.specs.Linear.{pick}
use Rattle.bits.proofs.BitLaw.{xor_assoc}
use Rattle.bits.proofs.LinearLaw.{linear_ext, composed, at_num, xor_shl, xor_double, xor_right_comm, xor_ends}
use Rattle.model.specs.Crc.{G, all_ones, product, Remainder, sent, poly, dividend, reflect, Crc32, step_r, serial_r, crc32}
use Rattle.model.proofs.CrcRegister.{mulx, reflect_linear, step_mulx, step_lt, num_lt, serial_r_lt}

-- the plain register: a bit comes in at the top
unfoldable pub serial : ℕ → List Bool → ℕ
serial r [] = r
serial r (b ∷ bs) = serial (mulx (bit_xor r (pick b (2 ^ 31)))) bs

top : (t : Bool) → pick t (reflect 32 1) ≡ pick t (2 ^ 31)
unfolding reflect bit
top true = refl
top false = refl

-- the two registers go together
reflected : (s : ℕ) (bs : List Bool) → s < 2 ^ 32 → reflect 32 (serial_r s bs) ≡ serial (reflect 32 s) bs
unfolding serial_r serial
reflected s [] h = refl
reflected s (b ∷ bs) h =
    reflected (step_r (bit_xor s (num b))) bs (step_lt (bit_xor s (num b)) (xor_lt 32 s (num b) h (num_lt b)))
    ∙ ap (λ (x : ℕ). serial x bs)
    (step_mulx (bit_xor s (num b)) (xor_lt 32 s (num b) h (num_lt b))
    ∙ ap mulx ((reflect_linear 32).adds s (num b) ∙ ap (bit_xor (reflect 32 s)) (at_num (reflect 32) (reflect_linear 32) b ∙ top b)))

-- ---- long division: a bit of the message is a bit of the quotient

-- what has come in so far, m of k bits
abbrev taken : ℕ → ℕ → ℕ
taken m k = bit_xor (m * 2 ^ 32) (all_ones * 2 ^ k)

bit_32 : (b : Bool) → num b * 2 ^ 32 ≡ pick b (2 ^ 32)
bit_32 true = refl
bit_32 false = refl

bit_31 : (b : Bool) → pick b (2 ^ 31) * 2 ≡ pick b (2 ^ 32)
bit_31 true = refl
bit_31 false = refl

taken_next : (m k : ℕ) (b : Bool) → taken (bit_xor (m * 2) (num b)) (suc k) ≡ bit_xor (taken m k * 2) (pick b (2 ^ 32))
taken_next m k b =
    let e : m * 2 * 2 ^ 32 ≡ m * 2 ^ 32 * 2 = omega arith in
    ap₂ bit_xor
    (xor_shl (m * 2) (num b) 32 ∙ ap₂ bit_xor e (bit_32 b))
    (ap (λ (x : ℕ). all_ones * x) (pow-suc 2 k) ∙ sym (mul_assoc all_ones (2 ^ k) 2))
    ∙ xor_right_comm (m * 2 ^ 32 * 2) (pick b (2 ^ 32)) (all_ones * 2 ^ k * 2)
    ∙ ap (λ (x : ℕ). bit_xor x (pick b (2 ^ 32))) (sym (xor_double (m * 2 ^ 32) (all_ones * 2 ^ k)))

Divided : ℕ → ℕ → Type 0
Divided d r = (qs : List Bool) × (d ≡ bit_xor (product qs G) r)

divided_next : (d r : ℕ) (b : Bool) → Divided d r → Divided (bit_xor (d * 2) (pick b (2 ^ 32))) (mulx (bit_xor r (pick b (2 ^ 31))))
unfolding Divided product mulx
divided_next d r b v =
    let t = bit (bit_xor r (pick b (2 ^ 31))) 31 in
    let p = product v.0 G in (
      t ∷ v.0,
      sym
          (ap (λ (x : ℕ). bit_xor (bit_xor (pick t G) (p * 2)) (bit_xor x (pick t G)))
          (xor_double r (pick b (2 ^ 31)) ∙ ap (bit_xor (r * 2)) (bit_31 b))
          ∙ xor_ends (pick t G) (p * 2) (bit_xor (r * 2) (pick b (2 ^ 32)))
          ∙ sym (xor_assoc (p * 2) (r * 2) (pick b (2 ^ 32)))
          ∙ ap (λ (x : ℕ). bit_xor x (pick b (2 ^ 32))) (sym (ap (λ (x : ℕ). x * 2) v.1 ∙ xor_double p r))),
    )

divided : (bs : List Bool) (m k r : ℕ) → Divided (taken m k) r → Divided (taken (poly m bs) (k + length bs)) (serial r bs)
unfolding poly serial
divided [] m k r v = subst (λ (n : ℕ). Divided (taken m n) r) (sym (add-zero k)) v
divided (b ∷ bs) m k r v =
    subst (λ (n : ℕ). Divided (taken (poly (bit_xor (m * 2) (num b)) bs) n) (serial (mulx (bit_xor r (pick b (2 ^ 31)))) bs))
    (suc-add k (length bs) ∙ sym (add-suc k (length bs)))
    (divided bs (bit_xor (m * 2) (num b)) (suc k) (mulx (bit_xor r (pick b (2 ^ 31))))
    (subst (λ (d : ℕ). Divided d (mulx (bit_xor r (pick b (2 ^ 31))))) (sym (taken_next m k b)) (divided_next (taken m k) r b v)))

-- ---- back from the plain register to the reflected one

pub reflect_lt : (k n : ℕ) → reflect k n < 2 ^ k
unfolding reflect
reflect_lt zero n = lit< tt
reflect_lt (suc k) n = xor_lt (suc k) (pick (bit n 0) (2 ^ k)) (reflect k (n / 2)) (high (bit n 0)) (more (reflect k (n / 2)) (reflect_lt k (n / 2)))
  where
    grows : 2 ^ k < 2 ^ suc k
    grows = pow-lt (le_refl (suc k))

    high : (t : Bool) → pick t (2 ^ k) < 2 ^ suc k
    high true = grows
    high false = pow_pos (suc k)

    more : (x : ℕ) → x < 2 ^ k → x < 2 ^ suc k
    more x h = omega (arith, grows)

complement : (a : ℕ) → a < 2 ^ 32 → all_ones - a ≡ bit_xor a all_ones
complement a h = omega (arith, xor_add_and a all_ones, and_mask a 32 ∙ mod-eq_of_lt h)

pub reflect_twice : (s : ℕ) → s < 2 ^ 32 → reflect 32 (reflect 32 s) ≡ s
unfolding reflect bit
reflect_twice =
    linear_ext (λ s. reflect 32 (reflect 32 s)) (λ s. s)
    (composed (reflect 32) (reflect 32) (reflect_linear 32) (reflect_linear 32)) (record { adds = λ a b. refl }) 32 refl

reflect_ones : reflect 32 all_ones ≡ all_ones
unfolding reflect bit
reflect_ones = refl

reflect_complement : (s : ℕ) → s < 2 ^ 32 → all_ones - s ≡ reflect 32 (all_ones - reflect 32 s)
reflect_complement s h =
    complement s h
    ∙ sym (ap (reflect 32) (complement (reflect 32 s) (reflect_lt 32 s)) ∙ (reflect_linear 32).adds (reflect 32 s) all_ones
    ∙ ap₂ bit_xor (reflect_twice s h) reflect_ones)

-- ---- the theorem

start : Divided (taken 0 0) all_ones
unfolding Divided product
start = ([], refl)

pub register_divides : (bs : List Bool) → Remainder (dividend bs) (reflect 32 (serial_r all_ones bs))
unfolding Divided dividend
register_divides bs =
    let r = reflected all_ones bs (lit< tt) ∙ ap (λ (x : ℕ). serial x bs) reflect_ones in
    let v = divided bs 0 0 all_ones start in
    record {
      quotient = v.0;
      small = reflect_lt 32 (serial_r all_ones bs);
      split = ap (λ (n : ℕ). taken (poly 0 bs) n) (sym (zero-add (length bs))) ∙ v.1 ∙ ap (bit_xor (product v.0 G)) (sym r);
    }

-- IEEE 802.3's, the empty message's too (a name holds no dot)
pub crc_is_802_3 : (message : List ℕ) → Crc32 message (crc32 message)
unfolding crc32
crc_is_802_3 message =
    record {
      remainder = reflect 32 (serial_r all_ones (sent message));
      divided = register_divides (sent message);
      is = reflect_complement (serial_r all_ones (sent message)) (serial_r_lt all_ones (sent message) (lit< tt));
    }
