-- The kit's digits of a number are the model's. Assumes nothing.
use mathlib.Core.Path.{◌≡◌, sym, ap, ap₂, ◌∙◌, subst}
use mathlib.Core.Bool.{Bool, cond}
use mathlib.Core.List.{List, [], ◌∷◌, ◌++◌}
use Prim.Native.Nat.{ℕ, zero, suc, ◌+◌, ◌-◌, ◌/◌, ◌%◌, ◌^◌, ◌≤◌, ◌<◌}
use native.Mathlib.Nat.{pow-succ'}
use native.Mathlib.Omega.{arith}
use lib.Dec.{lit<}
use borrow.Author.Tests.{lt-ltb, le-ltb}
use Rattle.io.specs.Digits.{hex_digit_ascii, IsDigitCount}
use Rattle.io.specs.Digits as kit
use Rattle.model.specs.Programs.{digit, digits, decimal}

ten_pos : (j : ℕ) → 0 < 10 ^ j
ten_pos zero = lit< tt
ten_pos (suc j) = omega (arith, pow-succ' 10 j, ten_pos j)

-- ---- a number of two digits or more, and the number without its last digit

module _ {n j : ℕ} (f : IsDigitCount 10 1 n (suc (suc j))) where
  more : 10 ^ suc j ≤ n
  more =
      let e : suc (suc j) - 1 ≡ suc j = omega arith in
      subst (λ (k : ℕ). 10 ^ k ≤ n) e (f.2 (omega arith))

  ten : 10 ≤ n
  ten = omega (arith, more, pow-succ' 10 j, ten_pos j)

  fewer : IsDigitCount 10 1 (n / 10) (suc j)
  fewer =
      let e : suc j - 1 ≡ j = omega arith in
      let l : 10 ^ j ≤ n / 10 = omega (arith, more, pow-succ' 10 j) in
      (omega arith, omega (arith, f.1, pow-succ' 10 (suc j)), λ _. subst (λ (k : ℕ). 10 ^ k ≤ n / 10) (sym e) l)

-- ---- the digits

glyph_digit : (d : ℕ) → d < 10 → hex_digit_ascii d ∷ [] ≡ digit d
glyph_digit d h = ap (λ (t : Bool). cond t (48 + d) (87 + d) ∷ []) (lt-ltb d 10 h)

-- of at most `places` digits, where the number itself is below it
spelled : (places k n : ℕ) → n < places → IsDigitCount 10 1 n k → kit.last_digits 10 k n ≡ digits places n
unfolding digits
spelled places zero n h f = absurd (omega (arith, f.0))
spelled zero (suc k) n h f = absurd (omega arith)
spelled (suc places) (suc zero) n h f =
    let m : n % 10 ≡ n = omega (arith, f.1) in
    ap (λ (d : ℕ). hex_digit_ascii d ∷ []) m ∙ glyph_digit n f.1
    ∙ sym (ap (λ (t : Bool). cond t (digit n) (digits places (n / 10) ++ digit (n % 10))) (lt-ltb n 10 f.1))
spelled (suc places) (suc (suc j)) n h f =
    ap₂ (λ (a b : List ℕ). a ++ b) (spelled places (suc j) (n / 10) (omega (arith, ten f)) (fewer f)) (glyph_digit (n % 10) (omega arith))
    ∙ sym (ap (λ (t : Bool). cond t (digit n) (digits places (n / 10) ++ digit (n % 10))) (le-ltb n 10 (ten f)))

pub decimal_is : (k n : ℕ) → IsDigitCount 10 1 n k → kit.last_digits 10 k n ≡ decimal n
unfolding decimal
decimal_is k n f = spelled (suc n) k n (omega arith) f
