-- The laws of the vote. Assumes nothing.
use mathlib.Core.Path.{◌≡◌, refl, sym, ap₂, ◌∙◌}
use mathlib.Core.Bool.{Bool, true, false, ◌&&◌, ◌||◌}
use Prim.Native.Nat.{ℕ, ◌^◌, ◌≤◌, ◌<◌}
use native.Mathlib.Omega.{arith}
use lib.Bits.{bit_and, bit_or}
use Rattle.bits.specs.Bit.{bit}
use Rattle.bits.specs.Vote.{majority3, Majority, wrong}
use Rattle.bits.proofs.BitLaw.{bit_and_lem, bit_or_lem, bit_ext, bit_ext_below}

outvoted_bit : (v x y z : Bool) → wrong v x y z ≤ 1 → majority3 x y z ≡ v
outvoted_bit true true true z h = refl
outvoted_bit true true false true h = refl
outvoted_bit true true false false h = absurd (omega arith)
outvoted_bit true false true true h = refl
outvoted_bit true false true false h = absurd (omega arith)
outvoted_bit true false false true h = absurd (omega arith)
outvoted_bit true false false false h = absurd (omega arith)
outvoted_bit false false false z h = refl
outvoted_bit false false true false h = refl
outvoted_bit false false true true h = absurd (omega arith)
outvoted_bit false true false false h = refl
outvoted_bit false true false true h = absurd (omega arith)
outvoted_bit false true true false h = absurd (omega arith)
outvoted_bit false true true true h = absurd (omega arith)

-- where at each of the k bits at most one of the three differs from v, the majority is v
pub outvoted : (k a b c r v : ℕ) → r < 2 ^ k → v < 2 ^ k → Majority a b c r
    → ((i : ℕ) → i < k → wrong (bit v i) (bit a i) (bit b i) (bit c i) ≤ 1) → r ≡ v
outvoted k a b c r v hr hv m f =
    bit_ext_below k r v hr hv (λ i h. m.at i ∙ outvoted_bit (bit v i) (bit a i) (bit b i) (bit c i) (f i h))

formula : (x y z : Bool) → ((x && y) || (x && z)) || (y && z) ≡ majority3 x y z
formula true true z = refl
formula true false true = refl
formula true false false = refl
formula false true z = refl
formula false false z = refl

pub majority : (a b c : ℕ) → Majority a b c (bit_or (bit_or (bit_and a b) (bit_and a c)) (bit_and b c))
majority a b c =
    record {
      at = λ i.
          bit_or_lem (bit_or (bit_and a b) (bit_and a c)) (bit_and b c) i
          ∙ ap₂ ◌||◌ (bit_or_lem (bit_and a b) (bit_and a c) i ∙ ap₂ ◌||◌ (bit_and_lem a b i) (bit_and_lem a c i)) (bit_and_lem b c i)
          ∙ formula (bit a i) (bit b i) (bit c i);
    }

-- there is one majority
pub majority_is : (a b c r : ℕ) → Majority a b c r → r ≡ bit_or (bit_or (bit_and a b) (bit_and a c)) (bit_and b c)
majority_is a b c r m =
    bit_ext r (bit_or (bit_or (bit_and a b) (bit_and a c)) (bit_and b c)) (λ i. m.at i ∙ sym ((majority a b c).at i))
