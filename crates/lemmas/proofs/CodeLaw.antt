-- What repair makes of a word and its check byte: it keeps their sizes, a corrected word is one flipped bit away, and repair done twice is repair done once. Assumes nothing.
use mathlib.Core.Path.{◌≡◌, refl, sym, ap, ap₂, ◌∙◌}
use mathlib.Core.Bool.{Bool, true, false, cond}
use mathlib.Core.List.{List, [], ◌∷◌}
use Rattle.std.specs.Prelude.{Option, None, Some}
use Prim.Native.Nat.{ℕ, suc, ◌-◌, ◌/◌, ◌^◌, ◌<◌, zero-le, suc-le-suc}
use native.Mathlib.Omega.{arith}
use borrow.Author.Tests.{ltb-true}
use lib.Dec.{eqb, ltb, ltb→lt, lit<}
use lib.Pow.{pow-lt}
use lib.Bits.{bit_xor, xor_lt, xor_self}
use lib.ListN.{length, get_or, take}
use Rattle.bits.specs.Bit.{bit}
use Rattle.bits.specs.Linear.{xor_columns, pick}
use Rattle.bits.proofs.LinearLaw.{xor_undo, xor_eq}
use Rattle.bits.proofs.Table.{every, entry}
use Rattle.model.specs.Parity.{columns, find, is_odd_lem, flipped_at, Class, clean, flipped, uncorrectable, class_of, check_of, syndrome, decode, flip_word, flip_check, word_after, check_after, fixed_word, fixed_check}
use Rattle.model.specs.Scan.{is_corrected, is_uncorrectable}
use Rattle.model.proofs.ParityLaw.{column_found, syndrome_flip, flip_flip, decode_clean}

-- ---- sizes

low : ℕ → ℕ → Bool
low i c = ltb c 256

column_low : (i : ℕ) → i < 64 → get_or (take 64 columns) i 0 < 256
unfolding columns low every
column_low i h = ltb→lt (get_or (take 64 columns) i 0) 256 (entry low (take 64 columns) tt i h)

xor_columns_low : (cs : List ℕ) (w : ℕ) → ((k : ℕ) → k < length cs → get_or cs k 0 < 2 ^ 8) → xor_columns cs w < 2 ^ 8
unfolding xor_columns
xor_columns_low [] w f = lit< tt
xor_columns_low (c ∷ cs) w f =
    xor_lt 8 (pick (bit w 0) c) (xor_columns cs (w / 2)) (one (bit w 0)) (xor_columns_low cs (w / 2) (λ k h. f (suc k) (suc-le-suc h)))
  where
    one : (b : Bool) → pick b c < 2 ^ 8
    one true = f 0 (suc-le-suc zero-le)
    one false = lit< tt

columns_64 : length (take 64 columns) ≡ 64
unfolding columns
columns_64 = refl

pub check_low : (w : ℕ) → check_of w < 256
unfolding check_of
check_low w = xor_columns_low (take 64 columns) w (λ k h. column_low k (omega (arith, columns_64)))

pub flip_word_low : (w i : ℕ) → w < 2 ^ 64 → flip_word i w < 2 ^ 64
unfolding flip_word
flip_word_low w i h = go (ltb i 64) refl
  where
    go : (t : Bool) → ltb i 64 ≡ t → cond t (bit_xor w (2 ^ i)) w < 2 ^ 64
    go true e = xor_lt 64 w (2 ^ i) h (pow-lt (ltb-true i 64 e))
    go false e = h

pub word_after_low : (r : Class) (w : ℕ) → w < 2 ^ 64 → word_after r w < 2 ^ 64
word_after_low clean w h = h
word_after_low (flipped i) w h = flip_word_low w i h
word_after_low uncorrectable w h = h

-- ---- a corrected word, read backwards

-- the syndrome is that bit's column
pub record Column (s i : ℕ) : Type 0 where
  pub inside : i < 72
  pub is : get_or columns i 0 ≡ s

pub flipped_column : (s i : ℕ) → class_of s ≡ flipped i → Column s i
unfolding class_of
flipped_column s i h = go (eqb s 0) (is_odd_lem s) (find s columns) refl h
  where
    go : (z o : Bool) (m : Option ℕ) → find s columns ≡ m → cond z clean (cond o (flipped_at m) uncorrectable) ≡ flipped i → Column s i
    go true o m e g = let z : ◌≡◌ {A = ℕ} 0 1 = cc in absurd (omega arith)
    go false false m e g = let z : ◌≡◌ {A = ℕ} 0 1 = cc in absurd (omega arith)
    go false true None e g = let z : ◌≡◌ {A = ℕ} 0 1 = cc in absurd (omega arith)
    go false true (Some k) e g = let f : k ≡ i = cc in let r = column_found s i (e ∙ ap Some f) in record { inside = r.0; is = r.1 }

pub check_flip_flip : (i c : ℕ) → flip_check i (flip_check i c) ≡ c
unfolding flip_check
check_flip_flip i c = go (ltb i 64)
  where
    go : (t : Bool) → cond t (cond t c (bit_xor c (2 ^ (i - 64)))) (bit_xor (cond t c (bit_xor c (2 ^ (i - 64)))) (2 ^ (i - 64))) ≡ c
    go true = refl
    go false = xor_undo c (2 ^ (i - 64))

no_syndrome : (w c : ℕ) → syndrome w c ≡ 0 → check_of w ≡ c
unfolding syndrome
no_syndrome w c e = xor_eq (check_of w) c e

-- (w, c) is v with its check byte, one bit flipped
pub record Flip (w c v i : ℕ) : Type 0 where
  pub inside : i < 72
  pub word : w ≡ flip_word i v
  pub check : c ≡ flip_check i (check_of v)

pub corrected : (w c i : ℕ) → decode w c ≡ flipped i → Flip w c (flip_word i w) i
unfolding decode
corrected w c i h =
    let l = flipped_column (syndrome w c) i h in
    let s : syndrome (flip_word i w) (flip_check i c) ≡ 0 = syndrome_flip w c i l.inside ∙ ap (bit_xor (syndrome w c)) l.is ∙ xor_self (syndrome w c) in
    let k : check_of (flip_word i w) ≡ flip_check i c = no_syndrome (flip_word i w) (flip_check i c) s in
    record { inside = l.inside; word = sym (flip_flip i w); check = sym (check_flip_flip i c) ∙ ap (flip_check i) (sym k) }

-- ---- repair done twice

pub fixed_clean : (w : ℕ) → (fixed_word w (check_of w) ≡ w) × (fixed_check w (check_of w) ≡ check_of w)
unfolding fixed_word fixed_check
fixed_clean w = (ap (λ (d : Class). word_after d w) (decode_clean w), ap (λ (d : Class). check_after d w (check_of w)) (decode_clean w))

again : (w c : ℕ) (r : Class) → decode w c ≡ r
    → (fixed_word (word_after r w) (check_after r w c) ≡ word_after r w) × (fixed_check (word_after r w) (check_after r w c) ≡ check_after r w c)
unfolding fixed_word fixed_check
again w c clean e = (ap (λ (d : Class). word_after d w) e, ap (λ (d : Class). check_after d w c) e)
again w c (flipped i) e = fixed_clean (flip_word i w)
again w c uncorrectable e = (ap (λ (d : Class). word_after d w) e, ap (λ (d : Class). check_after d w c) e)

pub fixed_again : (w c : ℕ)
    → (fixed_word (fixed_word w c) (fixed_check w c) ≡ fixed_word w c) × (fixed_check (fixed_word w c) (fixed_check w c) ≡ fixed_check w c)
unfolding fixed_word fixed_check
fixed_again w c = again w c (decode w c) refl

-- what repair keeps is not corrected
pub none_corrected : (w c : ℕ) → w ≡ fixed_word w c → c ≡ fixed_check w c → is_corrected (decode w c) ≡ 0
unfolding fixed_word fixed_check
none_corrected w c e f = go (decode w c) refl e f
  where
    go : (r : Class) → decode w c ≡ r → w ≡ word_after r w → c ≡ check_after r w c → is_corrected r ≡ 0
    go clean d a b = refl
    go (flipped i) d a b =
        let z : flipped i ≡ clean = sym d ∙ ap₂ decode a b ∙ decode_clean (flip_word i w) in
        let y : ◌≡◌ {A = ℕ} 1 0 = ap is_corrected z in absurd (omega arith)
    go uncorrectable d a b = refl

-- a repaired word is uncorrectable exactly if it was before
pub uncorrectable_again : (w c : ℕ) → is_uncorrectable (decode (fixed_word w c) (fixed_check w c)) ≡ is_uncorrectable (decode w c)
unfolding fixed_word fixed_check
uncorrectable_again w c = go (decode w c) refl
  where
    go : (r : Class) → decode w c ≡ r → is_uncorrectable (decode (word_after r w) (check_after r w c)) ≡ is_uncorrectable r
    go clean d = ap is_uncorrectable d
    go (flipped i) d = ap is_uncorrectable (decode_clean (flip_word i w))
    go uncorrectable d = ap is_uncorrectable d
