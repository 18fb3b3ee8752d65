-- How long the text of a byte string is, and what is left of it from an address on. Assumes nothing.
use mathlib.Core.Path.{◌≡◌, refl, sym, ap, ◌∙◌}
use mathlib.Core.Bool.{Bool, true, false, ◌&&◌, cond}
use mathlib.Core.List.{List, [], ◌∷◌, ◌++◌, append_assoc}
use Prim.Native.Nat.{ℕ, zero, suc, ◌+◌, ◌-◌, ◌*◌, ◌/◌, ◌%◌, ◌≤◌, ◌<◌, min}
use native.Mathlib.Decide.{dec_lt}
use native.Mathlib.Omega.{arith}
use borrow.Author.Tests.{eqb-true, eqb-false, ltb-true, ltb-false, lt-ltb, eq-eqb}
use lib.Dec.{eqb, ltb}
use lib.ListN.{length, take, drop, length-append, length-take, length-drop}
use lib.Seq.{drop-drop}
use Rattle.model.specs.Programs.{text, lines}
use Rattle.model.specs.Hex.{pairs_of, record_bytes, record_line, data_type, upper_type, upper_lines, data_lines, end_line, hex_text}

-- ---- lines

pub length_pairs : (bs : List ℕ) → length (pairs_of bs) ≡ 2 * length bs
unfolding pairs_of
length_pairs [] = refl
length_pairs (b ∷ bs) = omega (arith, length_pairs bs)

pub text_length_lem : (a t : ℕ) (bs : List ℕ) → length (record_line a t bs) ≡ 11 + 2 * length bs
unfolding record_line record_bytes
text_length_lem a t bs = simp (length_pairs, length-append) (omega arith)

pub no_lines : lines [] ≡ []
unfolding lines
no_lines = refl

pub one_line : (l : List ℕ) (ls : List (List ℕ)) → lines (l ∷ ls) ≡ l ++ (10 ∷ lines ls)
unfolding lines text
one_line l ls = refl

length_line : (l : List ℕ) (ls : List (List ℕ)) → length (lines (l ∷ ls)) ≡ length l + (1 + length (lines ls))
length_line l ls = ap length (one_line l ls) ∙ length-append l (10 ∷ lines ls) ∙ omega arith

pub lines_append : (k l : List (List ℕ)) → lines (k ++ l) ≡ lines k ++ lines l
unfolding lines text
lines_append [] l = refl
lines_append (a ∷ k) l = ap (λ (r : List ℕ). a ++ (10 ∷ r)) (lines_append k l) ∙ sym (append_assoc a (10 ∷ lines k) (lines l))

-- ---- the line before each further 65,536 bytes

abbrev pub upper_line : ℕ → List ℕ
upper_line a = record_line 0 upper_type (a / 65536 / 256 ∷ a / 65536 % 256 ∷ [])

pub one_upper : (a : ℕ) → 0 < a → a % 65536 ≡ 0 → upper_lines a ≡ upper_line a ∷ []
unfolding upper_lines
one_upper a h e = rw (lt-ltb 0 a h, eq-eqb (a % 65536) 0 e)

pub no_upper : (a : ℕ) → (0 < a → a % 65536 ≡ 0 → ⊥) → upper_lines a ≡ []
unfolding upper_lines
no_upper a n = go (ltb 0 a) (eqb (a % 65536) 0) refl refl
  where
    go : (s t : Bool) → ltb 0 a ≡ s → eqb (a % 65536) 0 ≡ t → cond (s && t) (upper_line a ∷ []) [] ≡ []
    go true true e f = absurd (n (ltb-true 0 a e) (eqb-true (a % 65536) 0 f))
    go true false e f = refl
    go false t e f = refl

pub text_upper : (a : ℕ) → 0 < a → a % 65536 ≡ 0 → lines (upper_lines a) ≡ upper_line a ++ (10 ∷ [])
text_upper a h e = ap lines (one_upper a h e) ∙ one_line (upper_line a) [] ∙ ap (λ (t : List ℕ). upper_line a ++ (10 ∷ t)) no_lines

pub text_no_upper : (a : ℕ) → (0 < a → a % 65536 ≡ 0 → ⊥) → lines (upper_lines a) ≡ []
text_no_upper a n = ap lines (no_upper a n) ∙ no_lines

-- whether such a line stands before address a
pub upper_or_not : (a : ℕ) → Dec ((0 < a) × (a % 65536 ≡ 0))
upper_or_not a = go (ltb 0 a) (eqb (a % 65536) 0) refl refl
  where
    go : (s t : Bool) → ltb 0 a ≡ s → eqb (a % 65536) 0 ≡ t → Dec ((0 < a) × (a % 65536 ≡ 0))
    go true true e f = yes (ltb-true 0 a e, eqb-true (a % 65536) 0 f)
    go true false e f = no (λ p. eqb-false (a % 65536) 0 f p.1)
    go false t e f = no (λ p. let l : a ≤ 0 = ltb-false 0 a e in omega arith)

pub between : (a : ℕ) → ((0 < a) × (a % 65536 ≡ 0) → ⊥) → (a - 1) / 65536 ≡ a / 65536
between a n = go (dec_lt 0 a)
  where
    go : Dec (0 < a) → (a - 1) / 65536 ≡ a / 65536
    go (yes h) = let k : a % 65536 ≡ 0 → ⊥ = λ e. n (h, e) in omega arith
    go (no k) = omega arith

-- ---- the whole text

-- (a - 1) / 65536 lines of this kind stand before the address a
length_upper : (a : ℕ) → length (lines (upper_lines a)) + 16 * ((a - 1) / 65536) ≡ 16 * (a / 65536)
length_upper a = go (upper_or_not a)
  where
    go : Dec ((0 < a) × (a % 65536 ≡ 0)) → length (lines (upper_lines a)) + 16 * ((a - 1) / 65536) ≡ 16 * (a / 65536)
    go (yes p) = rw (text_upper a p.0 p.1) (simp (length-append, text_length_lem) (omega arith))
    go (no n) = rw (text_no_upper a (λ h e. n (h, e))) (omega (arith, between a n))

-- multiples of 65,536 lie where a line starts
pub same_block : (a k : ℕ) → a % 16 ≡ 0 → 0 < k → k ≤ 16 → (a + k - 1) / 65536 ≡ a / 65536
same_block a k e h l = omega arith

next_block : (a m : ℕ) → a % 16 ≡ 0 → 0 < m → (a + 16 + (m - 16) - 1) / 65536 ≡ (a + m - 1) / 65536
next_block a m e h = go (dec_lt 16 m)
  where
    go : Dec (16 < m) → (a + 16 + (m - 16) - 1) / 65536 ≡ (a + m - 1) / 65536
    go (yes l) = ap (λ (k : ℕ). (k - 1) / 65536) (omega arith)
    go (no l) =
        ap (λ (k : ℕ). (k - 1) / 65536) (omega arith) ∙ same_block a 16 e (omega arith) (omega arith) ∙ sym (same_block a m e h (omega arith))

sum_up : (m n u r s t v : ℕ) → u + 16 * s ≡ 16 * t → r + 16 * t ≡ 2 * (m - 16) + 12 * n + 16 * v
    → u + (11 + 2 * min 16 m + (1 + r)) + 16 * s ≡ 2 * m + 12 * suc n + 16 * v
sum_up m n u r s t v e f = omega arith

length_data : (n a : ℕ) (x : List ℕ) → length x ≤ 16 * n → 16 * n < length x + 16 → a % 16 ≡ 0
    → length (lines (data_lines n a x)) + 16 * ((a - 1) / 65536) ≡ 2 * length x + 12 * n + 16 * ((a + length x - 1) / 65536)
unfolding data_lines
length_data zero a x h k e = omega (arith, ap length no_lines)
length_data (suc n) a x h k e =
    let ih = length_data n (a + 16) (drop 16 x) (simp length-drop (omega arith)) (simp length-drop (omega arith)) (omega arith) in
    let same : (a + 16 - 1) / 65536 ≡ a / 65536 = same_block a 16 e (omega arith) (omega arith) in
    let next : (a + 16 + (length x - 16) - 1) / 65536 ≡ (a + length x - 1) / 65536 = next_block a (length x) e (omega arith) in
    simp (lines_append, length-append, length_line, text_length_lem, length-take)
    (sum_up (length x) n (length (lines (upper_lines a))) (length (lines (data_lines n (a + 16) (drop 16 x)))) ((a - 1) / 65536) (a / 65536)
    ((a + length x - 1) / 65536) (length_upper a)
    (simp (length-drop, same, next) at ih))

pub hex_length : (x : List ℕ) → length (hex_text x) ≡ 12 + 2 * length x + 12 * ((length x + 15) / 16) + 16 * ((length x - 1) / 65536)
unfolding hex_text end_line
hex_length x =
    let d = length_data ((length x + 15) / 16) 0 x (omega arith) (omega arith) refl in
    simp (lines_append, length-append, length_line, text_length_lem, no_lines) (omega (arith, d))

-- ---- what is left of the text from address a on

-- the text of one line more, and before it of the line for the upper half where there is one
pub data_step : (n a : ℕ) (x : List ℕ) (k : List (List ℕ))
    → lines (data_lines (suc n) a x ++ k)
    ≡ lines (upper_lines a) ++ (record_line (a % 65536) data_type (take 16 x) ++ (10 ∷ lines (data_lines n (a + 16) (drop 16 x) ++ k)))
unfolding data_lines lines text
data_step n a x k =
    ap lines (append_assoc (upper_lines a) (record_line (a % 65536) data_type (take 16 x) ∷ data_lines n (a + 16) (drop 16 x)) k)
    ∙ lines_append (upper_lines a) (record_line (a % 65536) data_type (take 16 x) ∷ (data_lines n (a + 16) (drop 16 x) ++ k))

unfoldable pub text_from : List ℕ → ℕ → List ℕ
text_from x a = lines (data_lines ((length x - a + 15) / 16) a (drop a x) ++ (end_line ∷ []))

pub text_start : (x : List ℕ) → text_from x 0 ≡ hex_text x
unfolding text_from hex_text
text_start x = ap (λ (n : ℕ). lines (data_lines ((n + 15) / 16) 0 x ++ (end_line ∷ []))) (omega arith)

pub text_step : (x : List ℕ) (a : ℕ) → a < length x
    → text_from x a ≡ lines (upper_lines a) ++ (record_line (a % 65536) data_type (take 16 (drop a x)) ++ (10 ∷ text_from x (a + 16)))
unfolding text_from
text_step x a h =
    let n : (length x - a + 15) / 16 ≡ suc ((length x - (a + 16) + 15) / 16) = omega arith in
    ap (λ (k : ℕ). lines (data_lines k a (drop a x) ++ (end_line ∷ []))) n
    ∙ data_step ((length x - (a + 16) + 15) / 16) a (drop a x) (end_line ∷ [])
    ∙ ap (λ (y : List ℕ). lines (upper_lines a) ++ (record_line (a % 65536) data_type (take 16 (drop a x)) ++ (10 ∷ lines (data_lines ((length x - (a + 16) + 15) / 16) (a + 16) y ++ (end_line ∷ [])))))
    (drop-drop 16 a x)

pub text_end : (x : List ℕ) (a : ℕ) → length x ≤ a → text_from x a ≡ end_line ++ (10 ∷ [])
unfolding text_from data_lines lines text
text_end x a h =
    let n : (length x - a + 15) / 16 ≡ 0 = omega arith in
    ap (λ (k : ℕ). lines (data_lines k a (drop a x) ++ (end_line ∷ []))) n
