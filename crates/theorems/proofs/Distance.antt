-- Numbers that differ in no bit are equal, and one that differs in so many bits is so many flipped bits away; the same of a word with its check byte. Assumes nothing.
use mathlib.Core.Path.{◌≡◌, refl, sym, ap, ap₂, ◌∙◌, subst}
use mathlib.Core.Bool.{Bool, true, false, not, cond}
use Prim.Native.Nat.{ℕ, zero, suc, ◌+◌, ◌-◌, ◌^◌, ◌≤◌, ◌<◌}
use native.Mathlib.Nat.{not-suc-le-zero}
use native.Mathlib.Decide.{dec_lt, ℕ_discrete}
use native.Mathlib.Omega.{arith}
use borrow.Author.Tests.{lt-ltb, le-ltb}
use lib.Dec.{ltb}
use lib.Pow.{pow-lt}
use lib.Bits.{bit_xor, xor_lt}
use Rattle.bits.specs.Bit.{is_one, num, xor_b, bit}
use Rattle.bits.proofs.BitLaw.{bit_none, bit_xor_lem, bit_ext_below, pow_half, pow_even}
use Rattle.model.specs.Parity.{flip_word, flip_check}
use Rattle.model.proofs.ParityLaw.{flip_flip}
use Rattle.lemmas.proofs.CodeLaw.{flip_word_low, check_flip_flip}
use Rattle.theorems.specs.Damage.{distance}

-- ---- the bits of a power of two

bit_pow : (i : ℕ) → bit (2 ^ i) i ≡ true
unfolding bit
bit_pow zero = refl
bit_pow (suc i) = ap (λ (n : ℕ). bit n i) (pow_half i) ∙ bit_pow i

bit_pow_other : (i j : ℕ) → (j ≡ i → ⊥) → bit (2 ^ i) j ≡ false
unfolding bit
bit_pow_other zero zero n = absurd (n refl)
bit_pow_other zero (suc j) n = bit_none j
bit_pow_other (suc i) zero n = ap is_one (pow_even i)
bit_pow_other (suc i) (suc j) n = ap (λ (m : ℕ). bit m j) (pow_half i) ∙ bit_pow_other i j (λ e. n (ap suc e))

xor_b_none : (a : Bool) → xor_b a false ≡ a
xor_b_none true = refl
xor_b_none false = refl

bit_flipped : (a i : ℕ) → bit (bit_xor a (2 ^ i)) i ≡ not (bit a i)
bit_flipped a i = bit_xor_lem a (2 ^ i) i ∙ ap (xor_b (bit a i)) (bit_pow i) ∙ negated (bit a i)
  where
    negated : (b : Bool) → xor_b b true ≡ not b
    negated true = refl
    negated false = refl

bit_kept : (a i j : ℕ) → (j ≡ i → ⊥) → bit (bit_xor a (2 ^ i)) j ≡ bit a j
bit_kept a i j n = bit_xor_lem a (2 ^ i) j ∙ ap (xor_b (bit a j)) (bit_pow_other i j n) ∙ xor_b_none (bit a j)

-- ---- no bit, or one bit fewer

differ_none : (a b : Bool) → num (xor_b a b) ≡ 0 → a ≡ b
differ_none true true e = refl
differ_none true false e = absurd (omega arith)
differ_none false true e = absurd (omega arith)
differ_none false false e = refl

differ_not : (a b : Bool) (n : ℕ) → num (xor_b a b) ≡ suc n → num (xor_b (not a) b) ≡ 0
differ_not true true n e = absurd (omega arith)
differ_not true false n e = refl
differ_not false true n e = refl
differ_not false false n e = absurd (omega arith)

near_bits : (k a b : ℕ) → distance k a b ≡ 0 → (i : ℕ) → i < k → bit a i ≡ bit b i
unfolding distance
near_bits zero a b e i h = absurd (not-suc-le-zero h)
near_bits (suc k) a b e i h = go (ℕ_discrete k i) (near_bits k a b (omega arith) i)
  where
    go : Dec (k ≡ i) → (i < k → bit a i ≡ bit b i) → bit a i ≡ bit b i
    go (yes d) f = subst (λ (j : ℕ). bit a j ≡ bit b j) d (differ_none (bit a k) (bit b k) (omega arith))
    go (no n) f = f (omega arith)

pub near : (k a b : ℕ) → a < 2 ^ k → b < 2 ^ k → distance k a b ≡ 0 → a ≡ b
near k a b ha hb e = bit_ext_below k a b ha hb (near_bits k a b e)

distance_ext : (k a a' b : ℕ) → ((i : ℕ) → i < k → bit a' i ≡ bit a i) → distance k a' b ≡ distance k a b
unfolding distance
distance_ext zero a a' b f = refl
distance_ext (suc k) a a' b f =
    ap₂ (λ (x : Bool) (n : ℕ). num (xor_b x (bit b k)) + n) (f k (omega arith)) (distance_ext k a a' b (λ i h. f i (omega arith)))

-- bit i flipped is one bit nearer
record Nearer (k a b n : ℕ) : Type 0 where
  i : ℕ
  inside : i < k
  left : distance k (bit_xor a (2 ^ i)) b ≡ n

nearer : (k a b n : ℕ) → distance k a b ≡ suc n → Nearer k a b n
unfolding distance
nearer zero a b n e = absurd (omega arith)
nearer (suc k) a b n e = go (num (xor_b (bit a k) (bit b k))) refl (λ d. nearer k a b n d)
  where
    go : (m : ℕ) → num (xor_b (bit a k) (bit b k)) ≡ m → (distance k a b ≡ suc n → Nearer k a b n) → Nearer (suc k) a b n
    go zero d f =
        let r = f (omega arith) in
        let s : bit (bit_xor a (2 ^ r.i)) k ≡ bit a k = bit_kept a r.i k (λ g. let h = r.inside in omega arith) in
        let t : num (xor_b (bit (bit_xor a (2 ^ r.i)) k) (bit b k)) ≡ 0 = ap (λ (x : Bool). num (xor_b x (bit b k))) s ∙ d in
        record { i = r.i; inside = let h = r.inside in omega arith; left = ap₂ (λ (x y : ℕ). x + y) t r.left ∙ omega arith }
    go (suc m) d f =
        let s : num (xor_b (bit (bit_xor a (2 ^ k)) k) (bit b k)) ≡ 0 =
        ap (λ (x : Bool). num (xor_b x (bit b k))) (bit_flipped a k) ∙ differ_not (bit a k) (bit b k) m d in
        let t : distance k (bit_xor a (2 ^ k)) b ≡ distance k a b = distance_ext k a (bit_xor a (2 ^ k)) b (λ i h. bit_kept a k i (λ g. omega arith)) in
        let u : num (xor_b (bit a k) (bit b k)) ≤ 1 = small (xor_b (bit a k) (bit b k)) in
        record { i = k; inside = omega arith; left = ap₂ (λ (x y : ℕ). x + y) s t ∙ omega arith }
      where
        small : (x : Bool) → num x ≤ 1
        small true = omega arith
        small false = omega arith

distance_self : (k a : ℕ) → distance k a a ≡ 0
unfolding distance
distance_self zero a = refl
distance_self (suc k) a = ap₂ (λ (x y : ℕ). x + y) (same (bit a k)) (distance_self k a)
  where
    same : (b : Bool) → num (xor_b b b) ≡ 0
    same true = refl
    same false = refl

-- ---- the 72 bits of a word and its check byte

abbrev pub apart : ℕ → ℕ → ℕ → ℕ → ℕ
apart w c v e = distance 64 w v + distance 8 c e

flip_check_low : (i c : ℕ) → i < 72 → c < 256 → flip_check i c < 256
unfolding flip_check
flip_check_low i c l h = go (dec_lt i 64)
  where
    go : Dec (i < 64) → cond (ltb i 64) c (bit_xor c (2 ^ (i - 64))) < 256
    go (yes g) = rw (lt-ltb i 64 g) h
    go (no g) = let k : i - 64 < 8 = omega arith in rw (le-ltb i 64 (omega arith)) (xor_lt 8 c (2 ^ (i - 64)) h (pow-lt k))

record Nearer72 (w c v e n : ℕ) : Type 0 where
  i : ℕ
  inside : i < 72
  left : apart (flip_word i w) (flip_check i c) v e ≡ n

nearer_72 : (w c v e n : ℕ) → apart w c v e ≡ suc n → Nearer72 w c v e n
unfolding flip_word flip_check
nearer_72 w c v e n h = go (distance 64 w v) refl
  where
    go : (m : ℕ) → distance 64 w v ≡ m → Nearer72 w c v e n
    go zero d =
        let r = nearer 8 c e n (omega arith) in
        let l : r.i < 8 = r.inside in
        let s : 64 + r.i - 64 ≡ r.i = omega arith in
        let t : distance 8 (bit_xor c (2 ^ r.i)) e ≡ n = r.left in
        record {
          i = 64 + r.i;
          inside = omega arith;
          left = rw (le-ltb (64 + r.i) 64 (omega arith), s) (omega arith);
        }
    go (suc m) d =
        let r = nearer 64 w v m d in
        let l : r.i < 64 = r.inside in
        let t : distance 64 (bit_xor w (2 ^ r.i)) v ≡ m = r.left in
        record { i = r.i; inside = omega arith; left = rw (lt-ltb r.i 64 l) (omega arith) }

-- (w, c) and what becomes of it when no bit, one bit or two bits of the 72 are flipped
pub data Flips (w c : ℕ) : ℕ → ℕ → ℕ → Type 0 where
  intact : Flips w c 0 w c
  one : (i : ℕ) → i < 72 → Flips w c 1 (flip_word i w) (flip_check i c)
  two : (i j : ℕ) → i < 72 → j < 72 → (i ≡ j → ⊥) → Flips w c 2 (flip_word j (flip_word i w)) (flip_check j (flip_check i c))

so : {v e n : ℕ} (w c w' c' : ℕ) → w ≡ w' → c ≡ c' → Flips v e n w' c' → Flips v e n w c
so w c w' c' a b f = rw (a, b) f

module _ (v e : ℕ) (hv : v < 2 ^ 64) (he : e < 256) where
  none_off : (w c : ℕ) → w < 2 ^ 64 → c < 256 → apart w c v e ≡ 0 → (w ≡ v) × (c ≡ e)
  none_off w c hw hc h = (near 64 w v hw hv (omega arith), near 8 c e hc he (omega arith))

  record OneOff (w c : ℕ) : Type 0 where
    i : ℕ
    inside : i < 72
    word : w ≡ flip_word i v
    check : c ≡ flip_check i e

  one_off : (w c : ℕ) → w < 2 ^ 64 → c < 256 → apart w c v e ≡ 1 → OneOff w c
  one_off w c hw hc h =
      let r = nearer_72 w c v e 0 h in
      let n = none_off (flip_word r.i w) (flip_check r.i c) (flip_word_low w r.i hw) (flip_check_low r.i c r.inside hc) r.left in
      record {
        i = r.i;
        inside = r.inside;
        word = sym (flip_flip r.i w) ∙ ap (flip_word r.i) n.0;
        check = sym (check_flip_flip r.i c) ∙ ap (flip_check r.i) n.1;
      }

  two_off : (w c i j : ℕ) → i < 72 → j < 72 → flip_word j w ≡ flip_word i v → flip_check j c ≡ flip_check i e → apart w c v e ≡ 2 → Flips v e 2 w c
  two_off w c i j hi hj a b h =
      so w c (flip_word j (flip_word i v)) (flip_check j (flip_check i e))
      (sym (flip_flip j w) ∙ ap (flip_word j) a) (sym (check_flip_flip j c) ∙ ap (flip_check j) b) (two i j hi hj differ)
    where
      back : (i ≡ j) → (w ≡ v) × (c ≡ e)
      back g = (
        sym (flip_flip j w) ∙ ap (flip_word j) (a ∙ ap (λ (k : ℕ). flip_word k v) g) ∙ flip_flip j v,
        sym (check_flip_flip j c) ∙ ap (flip_check j) (b ∙ ap (λ (k : ℕ). flip_check k e) g) ∙ check_flip_flip j e,
      )

      differ : i ≡ j → ⊥
      differ g =
          let z : apart w c v e ≡ 0 =
          ap₂ (λ (x y : ℕ). apart x y v e) (back g).0 (back g).1 ∙ ap₂ (λ (x y : ℕ). x + y) (distance_self 64 v) (distance_self 8 e) in
          omega arith

  pub flips : (w c : ℕ) → w < 2 ^ 64 → c < 256 → (n : ℕ) → n ≤ 2 → apart w c v e ≡ n → Flips v e n w c
  flips w c hw hc zero h d = let o = none_off w c hw hc d in so w c v e o.0 o.1 intact
  flips w c hw hc (suc zero) h d =
      let o = one_off w c hw hc d in
      so w c (flip_word o.i v) (flip_check o.i e) o.word o.check (one o.i o.inside)
  flips w c hw hc (suc (suc zero)) h d =
      let r = nearer_72 w c v e 1 d in
      let o = one_off (flip_word r.i w) (flip_check r.i c) (flip_word_low w r.i hw) (flip_check_low r.i c r.inside hc) r.left in
      two_off w c o.i r.i o.inside r.inside o.word o.check d
  flips w c hw hc (suc (suc (suc n))) h d = absurd (omega arith)
