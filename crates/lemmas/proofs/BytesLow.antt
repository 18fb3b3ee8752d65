-- Lists of bytes put together and taken apart are lists of bytes, and a flipped bit of a number is in one of its bytes. Assumes nothing.
use mathlib.Core.Path.{◌≡◌, refl, sym, ap, ◌∙◌, subst}
use mathlib.Core.List.{List, [], ◌++◌}
use Prim.Native.Nat.{ℕ, zero, suc, ◌+◌, ◌-◌, ◌*◌, ◌/◌, ◌%◌, ◌^◌, ◌≤◌, ◌<◌}
use native.Mathlib.Nat.{add-zero, add-suc, suc-add, le_of_suc-le-suc, not-suc-le-zero, mul-div_cancel, mul-mod_left}
use native.Mathlib.Decide.{dec_lt}
use native.Mathlib.Omega.{arith}
use lib.Dec.{lit<}
use lib.Pow.{pow-add, pow-lt}
use lib.Bits.{bit_xor, xor_mod, xor_shr, xor_zero_r}
use lib.ListN.{length, drop, get_or-eq_default}
use lib.Seq.{get_or-drop}
use Rattle.model.specs.Bytes.{at, read, le_bytes, thrice, Bytes}
use Rattle.model.specs.Layout.{voted, prologue, directory_bytes, directory_bytes_of, count, header}
use Rattle.model.proofs.BytesLaw.{at_left, at_right, read_inj, le_bytes_small}
use Rattle.model.proofs.LayoutLaw.{maj3_low, length_voted, at_voted}

pub bytes_nil : Bytes []
bytes_nil = record { small = λ p. lit< tt }

pub bytes_append : (x y : List ℕ) → Bytes x → Bytes y → Bytes (x ++ y)
bytes_append x y bx by = record { small = λ p. pick p (dec_lt p (length x)) }
  where
    pick : (p : ℕ) → Dec (p < length x) → at (x ++ y) p < 256
    pick p (yes h) = subst (λ (n : ℕ). n < 256) (sym (at_left x y (length x) p refl h)) (bx.small p)
    pick p (no n) =
        let e : p ≡ length x + (p - length x) = omega arith in
        subst (λ (m : ℕ). m < 256) (sym (ap (at (x ++ y)) e ∙ at_right x y (length x) (p - length x) refl)) (by.small (p - length x))

pub bytes_thrice : (x : List ℕ) → Bytes x → Bytes (thrice x)
bytes_thrice x b = bytes_append x (x ++ x) b (bytes_append x x b b)

pub bytes_le_bytes : (k v : ℕ) → Bytes (le_bytes k v)
bytes_le_bytes k v = record { small = le_bytes_small k v }

pub bytes_drop : (n : ℕ) (x : List ℕ) → Bytes x → Bytes (drop n x)
bytes_drop n x b = record { small = λ p. subst (λ (m : ℕ). m < 256) (sym (get_or-drop n x p 0)) (b.small (n + p)) }

pub bytes_voted : (base k : ℕ) (x : List ℕ) → Bytes x → Bytes (voted base k x)
bytes_voted base k x b = record { small = λ p. go p (dec_lt p k) }
  where
    go : (p : ℕ) → Dec (p < k) → at (voted base k x) p < 256
    go p (yes h) =
        subst (λ (v : ℕ). v < 256) (sym (at_voted base k x p h))
        (maj3_low (at x (base + p)) (at x (base + k + p)) (at x (base + 2 * k + p)) (b.small (base + p)) (b.small (base + k + p)) (b.small (base + 2 * k + p)))
    go p (no n) =
        subst (λ (v : ℕ). v < 256) (sym (get_or-eq_default (voted base k x) 0 (omega (arith, length_voted base k x)))) (lit< tt)

pub bytes_header : (x : List ℕ) → Bytes x → Bytes (header x)
unfolding header prologue directory_bytes directory_bytes_of
bytes_header x b =
    bytes_append (thrice (prologue x)) (thrice (directory_bytes x)) (bytes_thrice (prologue x) (bytes_voted 0 16 x b))
    (bytes_thrice (directory_bytes x) (bytes_voted 48 (16 * count x) x b))

-- ---- a flipped bit is in one byte

pub byte_apart : (k i : ℕ) (x m : List ℕ) (p : ℕ) → Bytes x → Bytes m → read k m p ≡ bit_xor (read k x p) (2 ^ i)
    → (j : ℕ) → j < k → (j ≡ i / 8 → ⊥) → at m (p + j) ≡ at x (p + j)
unfolding read
byte_apart zero i x m p bx bm e j h n = absurd (not-suc-le-zero h)
byte_apart (suc k) i x m p bx bm e j h n = go (dec_lt i 8) j h n (λ i' e' j' h' n'. byte_apart k i' x m (suc p) bx bm e' j' h' n')
  where
    a : ℕ
    a = at x p

    r : ℕ
    r = read k x (suc p)

    low : at m p ≡ bit_xor (at x p) (2 ^ i % 256)
    low =
        let u : (at m p + 256 * read k m (suc p)) % 256 ≡ at m p = omega (arith, bm.small p) in
        let v : (at x p + 256 * read k x (suc p)) % 256 ≡ at x p = omega (arith, bx.small p) in
        sym u ∙ ap (λ (z : ℕ). z % 256) e ∙ xor_mod (at x p + 256 * read k x (suc p)) (2 ^ i) 8 ∙ ap (λ (z : ℕ). bit_xor z (2 ^ i % 256)) v

    high : read k m (suc p) ≡ bit_xor (read k x (suc p)) (2 ^ i / 256)
    high =
        let u : (at m p + 256 * read k m (suc p)) / 256 ≡ read k m (suc p) = omega (arith, bm.small p) in
        let v : (at x p + 256 * read k x (suc p)) / 256 ≡ read k x (suc p) = omega (arith, bx.small p) in
        sym u ∙ ap (λ (z : ℕ). z / 256) e ∙ xor_shr (at x p + 256 * read k x (suc p)) (2 ^ i) 8 ∙ ap (λ (z : ℕ). bit_xor z (2 ^ i / 256)) v

    shift : 8 ≤ i → 2 ^ i ≡ 2 ^ (i - 8) * 256
    shift l = let g : i ≡ i - 8 + 8 = omega arith in ap (λ (z : ℕ). 2 ^ z) g ∙ pow-add 2 (i - 8) 8

    go : Dec (i < 8) → (j : ℕ) → j < suc k → (j ≡ i / 8 → ⊥)
        → ((i' : ℕ) → read k m (suc p) ≡ bit_xor (read k x (suc p)) (2 ^ i') → (j' : ℕ) → j' < k → (j' ≡ i' / 8 → ⊥) → at m (suc p + j') ≡ at x (suc p + j'))
        → at m (p + j) ≡ at x (p + j)
    go (yes l) zero h n ih = absurd (n (omega arith))
    go (yes l) (suc j) h n ih =
        let t : 2 ^ i < 2 ^ 8 = pow-lt l in
        let z : 2 ^ i / 256 ≡ 0 = omega arith in
        let g : read k m (suc p) ≡ read k x (suc p) = high ∙ ap (bit_xor (read k x (suc p))) z ∙ xor_zero_r (read k x (suc p)) in
        ap (at m) (add-suc p j ∙ sym (suc-add p j)) ∙ read_inj k m x (suc p) bm bx g j (le_of_suc-le-suc h) ∙ ap (at x) (suc-add p j ∙ sym (add-suc p j))
    go (no l) zero h n ih =
        let z : 2 ^ i % 256 ≡ 0 = ap (λ (u : ℕ). u % 256) (shift (omega arith)) ∙ mul-mod_left (2 ^ (i - 8)) 256 in
        ap (at m) (add-zero p) ∙ low ∙ ap (bit_xor (at x p)) z ∙ xor_zero_r (at x p) ∙ sym (ap (at x) (add-zero p))
    go (no l) (suc j) h n ih =
        let z : 2 ^ i / 256 ≡ 2 ^ (i - 8) = ap (λ (u : ℕ). u / 256) (shift (omega arith)) ∙ mul-div_cancel (2 ^ (i - 8)) (lit< tt) in
        ap (at m) (add-suc p j ∙ sym (suc-add p j))
        ∙ ih (i - 8) (high ∙ ap (bit_xor (read k x (suc p))) z) j (le_of_suc-le-suc h) (λ g. n (omega arith))
        ∙ ap (at x) (suc-add p j ∙ sym (add-suc p j))
