-- Mend touches a header byte only where the other two copies outvote it, and else only the one byte that has a word's wrong bit. Assumes nothing.
use mathlib.Core.Path.{◌≡◌, refl, sym, ap, ◌∙◌, subst}
use mathlib.Core.Bool.{Bool, true, false, Bool-discrete, cond}
use mathlib.Core.List.{List}
use Prim.Native.Nat.{ℕ, zero, suc, ◌+◌, ◌-◌, ◌*◌, ◌/◌, ◌%◌, ◌^◌, ◌≤◌, ◌<◌}
use native.Mathlib.Nat.{not-suc-le-zero, mod-lt}
use native.Mathlib.Decide.{dec_lt, ℕ_discrete}
use native.Mathlib.Omega.{arith}
use borrow.Author.Tests.{lt-ltb, le-ltb}
use lib.Dec.{ltb, lit<}
use lib.Bits.{bit_xor}
use Rattle.bits.specs.Bit.{bit}
use Rattle.bits.specs.Vote.{majority3}
use Rattle.bits.proofs.BitLaw.{bit_ext_below}
use Rattle.model.specs.Bytes.{at, word_at, Bytes}
use Rattle.model.specs.Layout.{voted, prologue, count, header_length, directory_bytes_of, directory_bytes, header}
use Rattle.model.specs.Parity.{Class, clean, flipped, uncorrectable, check_of, syndrome, decode, flip_word, flip_check, word_after, check_after, fixed_word, fixed_check}
use Rattle.model.specs.Scan.{Among, codewords}
use Rattle.model.specs.Mend.{MendRule}
use Rattle.model.proofs.LayoutLaw.{vote_is_majority, at_voted}
use Rattle.lemmas.proofs.BytesLow.{bytes_voted, byte_apart}
use Rattle.lemmas.proofs.CodeLaw.{Column, flipped_column, Flip, corrected}
use Rattle.lemmas.proofs.HeaderLaw.{Copies, prologue_copies, directory_copies}
use Rattle.lemmas.proofs.CodewordLaw.{Where, in_word, is_check, neither, classify}
use Rattle.lemmas.proofs.MendLaw.{same_in_word}
use Rattle.theorems.specs.Damage.{Outvoted, CopyOff, first, second, third, OneColumn, Touched}

-- ---- the header

-- two different bytes differ in a bit
record Differ (a b : ℕ) : Type 0 where
  i : ℕ
  small : i < 8
  differ : bit a i ≡ bit b i → ⊥

search_bit : (k a b : ℕ) → k ≤ 8 → (((i : ℕ) → i < k → bit a i ≡ bit b i) → ⊥) → Differ a b
search_bit zero a b l n = absurd (n (λ i h. absurd (not-suc-le-zero h)))
search_bit (suc k) a b l n = go (Bool-discrete (bit a k) (bit b k)) (λ m. search_bit k a b (omega arith) m)
  where
    go : Dec (bit a k ≡ bit b k) → ((((i : ℕ) → i < k → bit a i ≡ bit b i) → ⊥) → Differ a b) → Differ a b
    go (no d) f = record { i = k; small = omega arith; differ = d }
    go (yes e) f = f (λ g. n (λ i h. pick i h g (ℕ_discrete k i)))
      where
        pick : (i : ℕ) → i < suc k → ((i : ℕ) → i < k → bit a i ≡ bit b i) → Dec (k ≡ i) → bit a i ≡ bit b i
        pick i h g (yes d) = subst (λ (j : ℕ). bit a j ≡ bit b j) d e
        pick i h g (no d) = g i (omega arith)

differ : (a b : ℕ) → a < 256 → b < 256 → (a ≡ b → ⊥) → Differ a b
differ a b ha hb n = search_bit 8 a b (omega arith) (λ f. n (bit_ext_below 8 a b ha hb f))

-- a bit that differs from the vote stands against two that agree
others : (a b c : Bool) → (a ≡ majority3 a b c → ⊥) → (b ≡ c) × (a ≡ b → ⊥)
others true true c n = absurd (n refl)
others true false true n = absurd (n refl)
others true false false n = (refl, λ e. n e)
others false true true n = (refl, λ e. n e)
others false true false n = absurd (n refl)
others false false c n = absurd (n refl)

majority3_second : (a b c : Bool) → majority3 a b c ≡ majority3 b a c
majority3_second true true c = refl
majority3_second true false c = refl
majority3_second false true c = refl
majority3_second false false c = refl

majority3_third : (a b c : Bool) → majority3 a b c ≡ majority3 c a b
majority3_third true true true = refl
majority3_third true true false = refl
majority3_third true false true = refl
majority3_third true false false = refl
majority3_third false true true = refl
majority3_third false true false = refl
majority3_third false false true = refl
majority3_third false false false = refl

-- byte p differs from v, the vote of the bytes p, a and b
odd_one : (x : List ℕ) → Bytes x → (p a b v : ℕ) → v < 256 → ((i : ℕ) → bit v i ≡ majority3 (bit (at x p) i) (bit (at x a) i) (bit (at x b) i))
    → (at x p ≡ v → ⊥) → Outvoted x p a b
odd_one x bx p a b v l f n =
    let d = differ (at x p) v (bx.small p) l n in
    let o = others (bit (at x p) d.i) (bit (at x a) d.i) (bit (at x b) d.i) (λ e. d.differ (e ∙ sym (f d.i))) in
    (d.i, d.small, o.0, o.1)

-- three copies, and y with the vote in all three
module _ (x y : List ℕ) (base k : ℕ) (bx : Bytes x) (c : Copies y base k (voted base k x)) where
  module _ (j : ℕ) (h : j < k) where
    v : ℕ
    v = at (voted base k x) j

    low : v < 256
    unfolding v
    low = (bytes_voted base k x bx).small j

    vote : (i : ℕ) → bit v i ≡ majority3 (bit (at x (base + j)) i) (bit (at x (base + k + j)) i) (bit (at x (base + 2 * k + j)) i)
    unfolding v
    vote i =
        ap (λ (n : ℕ). bit n i) (at_voted base k x j h)
        ∙ (vote_is_majority (at x (base + j)) (at x (base + k + j)) (at x (base + 2 * k + j))).at i

    in_first : (at x (base + j) ≡ at y (base + j) → ⊥) → CopyOff x base k (base + j)
    unfolding v
    in_first n = first j h (odd_one x bx (base + j) (base + k + j) (base + 2 * k + j) v low vote (λ e. n (e ∙ sym (c.first j h))))

    in_second : (at x (base + k + j) ≡ at y (base + k + j) → ⊥) → CopyOff x base k (base + k + j)
    unfolding v
    in_second n =
        second j h (odd_one x bx (base + k + j) (base + j) (base + 2 * k + j) v low
        (λ i. vote i ∙ majority3_second (bit (at x (base + j)) i) (bit (at x (base + k + j)) i) (bit (at x (base + 2 * k + j)) i)) (λ e. n (e ∙ sym (c.second j h))))

    in_third : (at x (base + 2 * k + j) ≡ at y (base + 2 * k + j) → ⊥) → CopyOff x base k (base + 2 * k + j)
    unfolding v
    in_third n =
        third j h (odd_one x bx (base + 2 * k + j) (base + j) (base + k + j) v low
        (λ i. vote i ∙ majority3_third (bit (at x (base + j)) i) (bit (at x (base + k + j)) i) (bit (at x (base + 2 * k + j)) i)) (λ e. n (e ∙ sym (c.third j h))))

  outvoted_in : (p : ℕ) → base ≤ p → p < base + 3 * k → (at x p ≡ at y p → ⊥) → CopyOff x base k p
  outvoted_in p a h n = go (dec_lt p (base + k)) (dec_lt p (base + 2 * k))
    where
      moved : (q : ℕ) → q ≡ p → ((at x q ≡ at y q → ⊥) → CopyOff x base k q) → CopyOff x base k p
      moved q e f = subst (λ (r : ℕ). (at x r ≡ at y r → ⊥) → CopyOff x base k r) e f n

      go : Dec (p < base + k) → Dec (p < base + 2 * k) → CopyOff x base k p
      go (yes u) v = moved (base + (p - base)) (omega arith) (in_first (p - base) (omega arith))
      go (no u) (yes v) = moved (base + k + (p - base - k)) (omega arith) (in_second (p - base - k) (omega arith))
      go (no u) (no v) = moved (base + 2 * k + (p - base - 2 * k)) (omega arith) (in_third (p - base - 2 * k) (omega arith))

-- ---- the words

-- the word's class says which of its bytes mend changes
pub column_of : (w c i : ℕ) → decode w c ≡ flipped i → Column (syndrome w c) i
unfolding decode
column_of w c i d = flipped_column (syndrome w c) i d

-- a word with bit i flipped differs in the byte of that bit alone, and nowhere if i is a check bit
pub flipped_byte : (x y : List ℕ) (q i p : ℕ) → Bytes x → Bytes y → word_at y q ≡ flip_word i (word_at x q) → q ≡ p / 8 → (at y p ≡ at x p → ⊥)
    → (i < 64) × (p ≡ 8 * q + i / 8)
unfolding flip_word
flipped_byte x y q i p bx by h e n = go (dec_lt i 64) (ℕ_discrete (p % 8) (i / 8))
  where
    flip : (t : Bool) → ltb i 64 ≡ t → word_at y q ≡ cond t (bit_xor (word_at x q) (2 ^ i)) (word_at x q)
    flip t g = h ∙ ap (λ (u : Bool). cond u (bit_xor (word_at x q) (2 ^ i)) (word_at x q)) g

    go : Dec (i < 64) → Dec (p % 8 ≡ i / 8) → (i < 64) × (p ≡ 8 * q + i / 8)
    go (yes l) (yes g) = (l, omega arith)
    go (yes l) (no g) =
        let u : 8 * q + p % 8 ≡ p = omega arith in
        absurd (n (subst (λ (k : ℕ). at y k ≡ at x k) u (byte_apart 8 i x y (8 * q) bx by (flip true (lt-ltb i 64 l)) (p % 8) (mod-lt p (lit< tt)) g)))
    go (no l) g = absurd (n (same_in_word y x q p by bx (flip false (le-ltb i 64 (omega arith))) e))

data Kept (x y : List ℕ) (p : ℕ) : Type 0 where
  kept : at y p ≡ at x p → Kept x y p
  touched : Touched x p → Kept x y p

module _ (x y : List ℕ) (bx : Bytes x) (m : MendRule x y) (q c : ℕ) (there : Among q c (codewords x)) where
  one_column : (i : ℕ) → decode (word_at x q) (at x c) ≡ flipped i → OneColumn x q c i
  one_column i d = record { word = there; column = sym (column_of (word_at x q) (at x c) i d).is }

  -- a byte of the word
  in_word_lem : (p : ℕ) → q ≡ p / 8 → Kept x y p
  unfolding fixed_word
  in_word_lem p e = go (decode (word_at x q) (at x c)) refl (m.words q c there) (ℕ_discrete (at y p) (at x p))
    where
      go : (r : Class) → decode (word_at x q) (at x c) ≡ r → word_at y q ≡ word_after r (word_at x q) → Dec (at y p ≡ at x p) → Kept x y p
      go r d h (yes k) = kept k
      go clean d h (no n) = kept (same_in_word y x q p m.bytes bx h e)
      go (flipped i) d h (no n) =
          let f = flipped_byte x y q i p bx m.bytes h e n in
          touched (subst (Touched x) (sym f.1) (Touched.in_word q c i (one_column i d) f.0))
      go uncorrectable d h (no n) = kept (same_in_word y x q p m.bytes bx h e)

  -- the check byte
  at_check : Kept x y c
  unfolding fixed_check flip_check
  at_check = go (decode (word_at x q) (at x c)) refl (m.checks q c there)
    where
      bit_at : (i : ℕ) → decode (word_at x q) (at x c) ≡ flipped i → Dec (i < 64) → Flip (word_at x q) (at x c) (flip_word i (word_at x q)) i
          → at y c ≡ check_of (flip_word i (word_at x q)) → Kept x y c
      bit_at i d (yes l) f h =
          let v = check_of (flip_word i (word_at x q)) in
          kept (h ∙ sym (f.check ∙ ap (λ (t : Bool). cond t v (bit_xor v (2 ^ (i - 64)))) (lt-ltb i 64 l)))
      bit_at i d (no l) f h = touched (Touched.is_check q c i (one_column i d) (omega arith) f.inside)

      go : (r : Class) → decode (word_at x q) (at x c) ≡ r → at y c ≡ check_after r (word_at x q) (at x c) → Kept x y c
      go clean d h = kept h
      go (flipped i) d h = bit_at i d (dec_lt i 64) (corrected (word_at x q) (at x c) i d) h
      go uncorrectable d h = kept h

-- ---- any byte

-- y is the voted header
outvoted_copy : (x : List ℕ) → Bytes x → (p : ℕ) → p < header_length (count x) → (at x p ≡ at (header x) p → ⊥) → Touched x p
unfolding prologue directory_bytes directory_bytes_of
outvoted_copy x bx p h n = go (dec_lt p 48)
  where
    go : Dec (p < 48) → Touched x p
    go (yes l) = Touched.in_prologue (outvoted_in x (header x) 0 16 bx (prologue_copies x (header x) (λ i g. refl)) p (omega arith) (omega arith) n)
    go (no l) = Touched.in_directory (outvoted_in x (header x) 48 (16 * count x) bx (directory_copies x (header x) (λ i g. refl)) p (omega arith) (omega arith) n)

touches : (x y : List ℕ) → Bytes x → MendRule x y → (p : ℕ) → Kept x y p
touches x y b m p = start (dec_lt p (header_length (count x)))
  where
    rest : header_length (count x) ≤ p → Where p (codewords x) → Kept x y p
    rest l (in_word q c i e) = in_word_lem x y b m q c i p e
    rest l (is_check q c i e) = subst (Kept x y) e (at_check x y b m q c i)
    rest l (neither f g) = kept (m.others p (record { past = l; no_word = f; no_check = g }))

    head : p < header_length (count x) → Dec (at x p ≡ at (header x) p) → Kept x y p
    head l (yes e) = kept (m.copies p l ∙ sym e)
    head l (no n) = touched (outvoted_copy x b p l n)

    start : Dec (p < header_length (count x)) → Kept x y p
    start (yes l) = head l (ℕ_discrete (at x p) (at (header x) p))
    start (no n) = rest (omega arith) (classify (codewords x) p)

pub only_touched : (x y : List ℕ) → Bytes x → MendRule x y → (p : ℕ) → (at y p ≡ at x p → ⊥) → Touched x p
only_touched x y b m p n = go (touches x y b m p)
  where
    go : Kept x y p → Touched x p
    go (kept e) = absurd (n e)
    go (touched t) = t
