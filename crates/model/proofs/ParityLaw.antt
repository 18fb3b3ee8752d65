-- The (72,64) code: its columns follow Hsiao's rule, one flipped bit is corrected and two are noticed. Assumes nothing.
use mathlib.Core.Path.{◌≡◌, refl, sym, ap, ap₂, ◌∙◌}
use mathlib.Core.Bool.{Bool, true, false, cond}
use mathlib.Core.List.{List, [], ◌∷◌}
use Rattle.std.specs.Prelude.{Option, None, Some, option_map}
use Prim.Native.Nat.{ℕ, zero, suc, ◌+◌, ◌-◌, ◌^◌, ◌<◌, zero-le, suc-le-suc}
use native.Mathlib.Omega.{arith}
use borrow.Author.Tests.{ne_eqb, eqb-true, ltb-true, ltb-false}
use lib.Dec.{T, eqb, ltb, eqb→eq}
use lib.Bits.{bit_xor, xor_self}
use lib.Count.{ones}
use lib.ListN.{length, get_or, take}
use lib.Seq.{get_or-take}
use Rattle.bits.specs.Bit.{bit}
use Rattle.bits.specs.Linear.{xor_columns}
use Rattle.bits.proofs.BitLaw.{xor_assoc}
use Rattle.bits.proofs.LinearLaw.{xor_columns_flip, xor_columns_xor, xor_undo, xor_eq, xor_right_comm}
use Rattle.bits.proofs.Table.{every, entry}
use Rattle.model.specs.Bytes.{tabulate}
use Rattle.model.specs.Parity.{columns, hsiao, of_weight, keep_if, find, is_odd_lem, Class, clean, flipped, uncorrectable, class_of, check_of, syndrome, flip_word, flip_check, decode, corrected_word, outcome}

-- ---- the columns: Hsiao's rule, all odd, all different

pub columns_rule : columns ≡ hsiao
unfolding columns hsiao of_weight keep_if tabulate ones
columns_rule = refl

oddly : ℕ → ℕ → Bool
oddly i c = is_odd_lem c

T_true : (b : Bool) → T b → b ≡ true
T_true true h = refl
T_true false h = absurd h

pub column_odd : (i : ℕ) → i < 72 → is_odd_lem (get_or columns i 0) ≡ true
unfolding columns oddly is_odd_lem ones every
column_odd i h = T_true (is_odd_lem (get_or columns i 0)) (entry oddly columns tt i h)

is_at : ℕ → Option ℕ → Bool
is_at i None = false
is_at i (Some k) = eqb k i

is_at_lem : (i : ℕ) (o : Option ℕ) → T (is_at i o) → o ≡ Some i
unfolding is_at
is_at_lem i None h = absurd h
is_at_lem i (Some k) h = ap Some (eqb→eq k i h)

itself : ℕ → ℕ → Bool
itself i c = is_at i (find c columns)

pub find_column : (i : ℕ) → i < 72 → find (get_or columns i 0) columns ≡ Some i
unfolding columns itself is_at find every
find_column i h = is_at_lem i (find (get_or columns i 0) columns) (entry itself columns tt i h)

pub columns_differ : (i j : ℕ) → i < 72 → j < 72 → get_or columns i 0 ≡ get_or columns j 0 → i ≡ j
columns_differ i j hi hj e = let z : Some i ≡ Some j = sym (find_column i hi) ∙ ap (λ (s : ℕ). find s columns) e ∙ find_column j hj in cc

unitary : ℕ → ℕ → Bool
unitary j u = eqb (get_or columns (64 + j) 0) (2 ^ j)

eight : List ℕ
eight = 0 ∷ 0 ∷ 0 ∷ 0 ∷ 0 ∷ 0 ∷ 0 ∷ 0 ∷ []

pub unit_column : (j : ℕ) → j < 8 → get_or columns (64 + j) 0 ≡ 2 ^ j
unfolding columns eight unitary every
unit_column j h = eqb→eq (get_or columns (64 + j) 0) (2 ^ j) (entry unitary eight tt j h)

pub column_nonzero : (i : ℕ) → i < 72 → get_or columns i 0 ≡ 0 → ⊥
unfolding find columns
column_nonzero i h e =
    let n : None ≡ Some i = ap (λ (x : ℕ). find x columns) (sym e) ∙ find_column i h in
    let z : ◌≡◌ {A = ℕ} 0 1 = cc in
    omega arith

-- ---- the check byte is linear

pub check_linear : (w i : ℕ) → i < 64 → check_of (bit_xor w (2 ^ i)) ≡ bit_xor (check_of w) (get_or columns i 0)
unfolding check_of
check_linear w i h =
    xor_columns_flip (take 64 columns) w i ∙ ap (bit_xor (xor_columns (take 64 columns) w)) (get_or-take 64 columns i 0 h)

-- flipping bit i of the 72 moves the syndrome by column i
pub syndrome_flip : (w c i : ℕ) → i < 72 → syndrome (flip_word i w) (flip_check i c) ≡ bit_xor (syndrome w c) (get_or columns i 0)
unfolding syndrome flip_word flip_check
syndrome_flip w c i h = go (ltb i 64) refl
  where
    go : (t : Bool) → ltb i 64 ≡ t
        → bit_xor (check_of (cond t (bit_xor w (2 ^ i)) w)) (cond t c (bit_xor c (2 ^ (i - 64))))
        ≡ bit_xor (bit_xor (check_of w) c) (get_or columns i 0)
    go true e =
        ap (λ (x : ℕ). bit_xor x c) (check_linear w i (ltb-true i 64 e)) ∙ xor_right_comm (check_of w) (get_or columns i 0) c
    go false e =
        sym (xor_assoc (check_of w) c (2 ^ (i - 64)))
        ∙ ap (bit_xor (bit_xor (check_of w) c))
        (sym (unit_column (i - 64) (omega (arith, ltb-false i 64 e))) ∙ ap (λ (k : ℕ). get_or columns k 0) (omega (arith, ltb-false i 64 e)))

pub syndrome_matched : (w : ℕ) → syndrome w (check_of w) ≡ 0
unfolding syndrome
syndrome_matched w = xor_self (check_of w)

pub flip_flip : (i w : ℕ) → flip_word i (flip_word i w) ≡ w
unfolding flip_word
flip_flip i w = go (ltb i 64)
  where
    go : (t : Bool) → cond t (bit_xor (cond t (bit_xor w (2 ^ i)) w) (2 ^ i)) (cond t (bit_xor w (2 ^ i)) w) ≡ w
    go true = xor_undo w (2 ^ i)
    go false = refl

-- ---- the classes

pub class_zero : class_of 0 ≡ clean
unfolding class_of
class_zero = refl

pub class_column : (i : ℕ) → i < 72 → class_of (get_or columns i 0) ≡ flipped i
unfolding class_of
class_column i h =
    rw (ne_eqb (get_or columns i 0) 0 (column_nonzero i h), column_odd i h, find_column i h)

pub find_none : (s : ℕ) (cs : List ℕ) → ((k : ℕ) → k < length cs → get_or cs k 0 ≡ s → ⊥) → find s cs ≡ None
unfolding find
find_none s [] f = refl
find_none s (c ∷ cs) f =
    rw (ne_eqb c s (f 0 (suc-le-suc zero-le))) (ap (option_map suc) (find_none s cs (λ k h. f (suc k) (suc-le-suc h))))

find_sound : (s : ℕ) (cs : List ℕ) (i : ℕ) → find s cs ≡ Some i → (i < length cs) × (get_or cs i 0 ≡ s)
unfolding find
find_sound s [] i h = let z : ◌≡◌ {A = ℕ} 0 1 = cc in absurd (omega arith)
find_sound s (c ∷ cs) i h = go (eqb c s) refl (find s cs) (λ k g. find_sound s cs k g) h
  where
    go : (t : Bool) → eqb c s ≡ t → (o : Option ℕ) → ((k : ℕ) → o ≡ Some k → (k < length cs) × (get_or cs k 0 ≡ s))
        → cond t (Some 0) (option_map suc o) ≡ Some i → (i < suc (length cs)) × (get_or (c ∷ cs) i 0 ≡ s)
    go true e o f g = let z : 0 ≡ i = cc in (omega arith, ap (λ (k : ℕ). get_or (c ∷ cs) k 0) (sym z) ∙ eqb-true c s e)
    go false e None f g = let z : ◌≡◌ {A = ℕ} 0 1 = cc in absurd (omega arith)
    go false e (Some k) f g = let z : suc k ≡ i = cc in let r = f k refl in (omega (arith, r.0), ap (λ (k : ℕ). get_or (c ∷ cs) k 0) (sym z) ∙ r.1)

pub column_found : (s i : ℕ) → find s columns ≡ Some i → (i < 72) × (get_or columns i 0 ≡ s)
unfolding columns
column_found s i h = find_sound s columns i h

-- neither 0 nor a column
pub class_none : (s : ℕ) → (s ≡ 0 → ⊥) → ((k : ℕ) → k < 72 → get_or columns k 0 ≡ s → ⊥) → class_of s ≡ uncorrectable
unfolding class_of columns
class_none s z f = rw (ne_eqb s 0 z, find_none s columns f) (go (is_odd_lem s))
  where
    go : (t : Bool) → cond t uncorrectable uncorrectable ≡ uncorrectable
    go true = refl
    go false = refl

-- how many of the n numbers from s on pass a test
unfoldable pub how_many : (ℕ → Bool) → ℕ → ℕ → ℕ
how_many t zero s = 0
how_many t (suc n) s = cond (t s) 1 0 + how_many t n (suc s)

unfoldable pub corrects : Class → Bool
corrects clean = false
corrects (flipped i) = true
corrects uncorrectable = false

unfoldable pub cannot_correct : Class → Bool
cannot_correct clean = false
cannot_correct (flipped i) = false
cannot_correct uncorrectable = true

-- of the 255 non-zero syndromes 72 correct and 183 don't
pub syndromes : (how_many (λ s. corrects (class_of s)) 255 1 ≡ 72) × (how_many (λ s. cannot_correct (class_of s)) 255 1 ≡ 183)
unfolding how_many corrects cannot_correct class_of is_odd_lem ones find columns
syndromes = (refl, refl)

-- ---- what becomes of a word and its check byte

pub decode_clean : (w : ℕ) → decode w (check_of w) ≡ clean
unfolding decode
decode_clean w = rw (syndrome_matched w) class_zero

-- any one flipped bit of the 72 decodes to the word
pub single_flip : (w i : ℕ) → i < 72 → decode (flip_word i w) (flip_check i (check_of w)) ≡ flipped i
unfolding decode
single_flip w i h =
    ap class_of (syndrome_flip w (check_of w) i h ∙ ap (λ (x : ℕ). bit_xor x (get_or columns i 0)) (syndrome_matched w))
    ∙ class_column i h

pub single_flip_word : (w i : ℕ) → i < 72 → outcome (flip_word i w) (flip_check i (check_of w)) ≡ corrected_word w
unfolding outcome
single_flip_word w i h = rw (single_flip w i h, flip_flip i w)

-- parity: a linear test that each column passes and no sum of two does
parity : List ℕ
parity = 1 ∷ 1 ∷ 1 ∷ 1 ∷ 1 ∷ 1 ∷ 1 ∷ 1 ∷ []

odd : ℕ → ℕ → Bool
odd i c = eqb (xor_columns parity c) 1

column_parity : (i : ℕ) → i < 72 → xor_columns parity (get_or columns i 0) ≡ 1
unfolding columns odd xor_columns parity bit every
column_parity i h = eqb→eq (xor_columns parity (get_or columns i 0)) 1 (entry odd columns tt i h)

two_even : (i j : ℕ) → i < 72 → j < 72 → xor_columns parity (bit_xor (get_or columns i 0) (get_or columns j 0)) ≡ 0
two_even i j hi hj =
    xor_columns_xor parity (get_or columns i 0) (get_or columns j 0) ∙ ap₂ bit_xor (column_parity i hi) (column_parity j hj)

-- any two flipped bits are uncorrectable
pub double_flip : (w i j : ℕ) → i < 72 → j < 72 → (i ≡ j → ⊥)
    → decode (flip_word j (flip_word i w)) (flip_check j (flip_check i (check_of w))) ≡ uncorrectable
unfolding decode
double_flip w i j hi hj d =
    ap class_of sum
    ∙ class_none (bit_xor (get_or columns i 0) (get_or columns j 0))
    (λ z. d (columns_differ i j hi hj (xor_eq (get_or columns i 0) (get_or columns j 0) z)))
    (λ k hk e. let z : ◌≡◌ {A = ℕ} 1 0 = sym (column_parity k hk) ∙ ap (xor_columns parity) e ∙ two_even i j hi hj in omega arith)
  where
    sum : syndrome (flip_word j (flip_word i w)) (flip_check j (flip_check i (check_of w))) ≡ bit_xor (get_or columns i 0) (get_or columns j 0)
    sum =
        syndrome_flip (flip_word i w) (flip_check i (check_of w)) j hj
        ∙ ap (λ (x : ℕ). bit_xor x (get_or columns j 0))
        (syndrome_flip w (check_of w) i hi ∙ ap (λ (x : ℕ). bit_xor x (get_or columns i 0)) (syndrome_matched w))
