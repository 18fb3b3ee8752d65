-- Damage that `Damaged 1` allows, with every byte of every header copy and every protected word hit, and damage that it excludes. Assumes nothing.
use mathlib.Core.Path.{◌≡◌, refl, sym, ap, ap₂, ◌∙◌, subst}
use mathlib.Core.Bool.{Bool, true, false, not}
use mathlib.Core.List.{List, [], ◌∷◌, ◌++◌}
use Prim.Native.Nat.{ℕ, zero, ◌+◌, ◌-◌, ◌*◌, ◌/◌, ◌≤◌, ◌<◌}
use native.Mathlib.Decide.{dec_lt, ℕ_discrete}
use native.Mathlib.Omega.{arith}
use borrow.Author.Tests.{eq-eqb}
use lib.Dec.{T, eqb, leb, ltb, leb→le, ltb→lt, lit<}
use lib.Bits.{bit_xor}
use lib.ListN.{length, drop, set, replicate, length-replicate, get_or-eq_default}
use lib.Seq.{get_or-drop}
use Rattle.bits.specs.Bit.{bit}
use Rattle.bits.specs.Linear.{xor_columns}
use Rattle.bits.proofs.Table.{every, entry}
use Rattle.model.specs.Bytes.{at, read, le_bytes, tabulate}
use Rattle.model.specs.Crc.{bits_low, sent, serial_r, step_r, crc32}
use Rattle.model.specs.Layout.{voted, prologue, count_in, count, header_length, directory_bytes_of, directory_bytes, entry_of, entries, directory_of, directory}
use Rattle.model.specs.Parity.{columns, check_of}
use Rattle.model.specs.Views.{first_that}
use Rattle.model.specs.Scan.{plane_of, is_protected, visit_of, visits_over, visits, codewords_from, words_of, codewords_in, codewords, Among, here, later}
use Rattle.model.specs.Writer.{Row, row_entries, plane_entry, plane_entries, row_words_lem, planes_words, planes, regions, plan_directory, entry_bytes, entries_bytes, prologue_start, prologue_bytes, checks, plane_bytes, planes_bytes, plan_image, kind_among, rows_verdict, image_length, plan_verdict, write, image}
use Rattle.model.specs.Mend.{Elsewhere}
use Rattle.theorems.specs.Damage.{off, OneCopyOff, distance, bits_off, Damaged}

-- ---- an image: one row of two protected words, words 18 and 19 with check bytes 160 and 161

unfoldable pub sample_rows : List Row
sample_rows = record { kind = 1; flags = 2; words = 2 } ∷ []

unfoldable pub sample_payload : List ℕ
sample_payload = 1 ∷ 2 ∷ 3 ∷ 4 ∷ 5 ∷ 6 ∷ 7 ∷ 8 ∷ 255 ∷ 0 ∷ 255 ∷ 0 ∷ 255 ∷ 0 ∷ 255 ∷ 0 ∷ []

unfoldable pub sample : List ℕ
unfolding sample_rows sample_payload plan_image prologue_bytes prologue_start crc32 le_bytes serial_r step_r sent bits_low bit regions planes plan_directory row_entries plane_entries plane_entry entries_bytes entry_bytes planes_bytes plane_bytes checks check_of columns xor_columns read row_words_lem
sample = plan_image sample_rows sample_payload

pub sample_written : write sample_rows sample_payload 168 ≡ image sample
unfolding sample write plan_verdict rows_verdict kind_among image_length planes_words
sample_written = refl

sample_count : count sample ≡ 2
unfolding sample count count_in prologue voted tabulate read
sample_count = refl

pub sample_codewords : codewords sample ≡ record { word = 18; check = 160 } ∷ record { word = 19; check = 161 } ∷ []
unfolding sample codewords visits visits_over visit_of is_protected plane_of first_that codewords_in words_of codewords_from directory directory_of entries entry_of directory_bytes directory_bytes_of count count_in prologue voted tabulate read bit
sample_codewords = refl

-- ---- the damage: the first copies in bit 0 of each byte, the second in bit 1, the third in bit 2; a data bit of word 18, a check bit of word 19

-- bytes with some bits flipped
flip_all : List ℕ → List ℕ → List ℕ
flip_all [] x = x
flip_all (m ∷ ms) [] = []
flip_all (m ∷ ms) (b ∷ x) = bit_xor b m ∷ flip_all ms x

copies_off : ℕ → List ℕ
copies_off k = replicate k 1 ++ (replicate k 2 ++ replicate k 4)

unfoldable pub every_hit : List ℕ
unfolding flip_all copies_off
every_hit =
    flip_all (copies_off 16 ++ (copies_off 32 ++ (0 ∷ 0 ∷ 16 ∷ replicate 5 0 ++ (replicate 8 0 ++ (0 ∷ 8 ∷ []))))) sample

-- ---- a test at 0, .., n - 1

abbrev up_to : ℕ → (ℕ → Bool) → Bool
up_to n f = every (λ i c. f i) 0 (replicate n 0)

up_to_lem : (n : ℕ) (f : ℕ → Bool) → T (up_to n f) → (i : ℕ) → i < n → T (f i)
up_to_lem n f t i h = entry (λ j c. f j) (replicate n 0) t i (omega (arith, length-replicate n zero))

copies_tested : (w d : List ℕ) (base k : ℕ)
    → T (up_to k (λ j. up_to 8 (λ i. leb (off w d (base + j) i + off w d (base + k + j) i + off w d (base + 2 * k + j) i) 1))) → OneCopyOff w d base k
copies_tested w d base k t j i h l =
    leb→le (off w d (base + j) i + off w d (base + k + j) i + off w d (base + 2 * k + j) i) 1
    (up_to_lem 8 (λ u. leb (off w d (base + j) u + off w d (base + k + j) u + off w d (base + 2 * k + j) u) 1)
    (up_to_lem k (λ u. up_to 8 (λ v. leb (off w d (base + u) v + off w d (base + k + u) v + off w d (base + 2 * k + u) v) 1)) t j h) i l)

-- ---- it is allowed

hit_size : length every_hit ≡ 168
unfolding sample every_hit
hit_size = refl

sample_size : length sample ≡ 168
unfolding sample
sample_size = refl

hit_bytes : (p : ℕ) → at every_hit p < 256
unfolding sample every_hit every
hit_bytes p = go (dec_lt p 168)
  where
    go : Dec (p < 168) → at every_hit p < 256
    go (yes h) = ltb→lt (at every_hit p) 256 (entry (λ i b. ltb b 256) every_hit tt p h)
    go (no n) = let l : length every_hit ≤ p = omega arith in subst (λ (v : ℕ). v < 256) (sym (get_or-eq_default every_hit 0 l)) (lit< tt)

hit_prologue : OneCopyOff sample every_hit 0 16
unfolding sample every_hit every bit
hit_prologue = copies_tested sample every_hit 0 16 tt

hit_directory : OneCopyOff sample every_hit 48 32
unfolding sample every_hit every bit
hit_directory = copies_tested sample every_hit 48 32 tt

hit_18 : bits_off sample every_hit 18 160 ≡ 1
unfolding sample every_hit distance read bit
hit_18 = refl

hit_19 : bits_off sample every_hit 19 161 ≡ 1
unfolding sample every_hit distance read bit
hit_19 = refl

hit_word : (q c : ℕ) → Among q c (record { word = 18; check = 160 } ∷ record { word = 19; check = 161 } ∷ []) → bits_off sample every_hit q c ≡ 1
hit_word q c (here e f) = ap₂ (bits_off sample every_hit) (sym e) (sym f) ∙ hit_18
hit_word q c (later (here e f)) = ap₂ (bits_off sample every_hit) (sym e) (sym f) ∙ hit_19
hit_word q c (later (later m)) = elim m [ ]

pub hit_words : (q c : ℕ) → Among q c (codewords sample) → bits_off sample every_hit q c ≡ 1
hit_words q c m = hit_word q c (subst (Among q c) sample_codewords m)

-- past the second check byte nothing is hit
hit_tail : drop 162 every_hit ≡ drop 162 sample
unfolding sample every_hit
hit_tail = refl

hit_rest : (p : ℕ) → 162 ≤ p → at every_hit p ≡ at sample p
hit_rest p h =
    let e : 162 + (p - 162) ≡ p = omega arith in
    subst (λ (n : ℕ). at every_hit n ≡ at sample n) e
    (sym (get_or-drop 162 every_hit (p - 162) 0) ∙ ap (λ (x : List ℕ). at x (p - 162)) hit_tail ∙ get_or-drop 162 sample (p - 162) 0)

pub hit_allowed : Damaged 1 sample every_hit
hit_allowed =
    record {
      size = hit_size ∙ sym sample_size;
      bytes = record { small = hit_bytes };
      prologue = hit_prologue;
      directory = subst (λ (n : ℕ). OneCopyOff sample every_hit 48 (16 * n)) (sym sample_count) hit_directory;
      words = λ q c m. let e = hit_words q c m in omega arith;
      others = λ p o. others p o (dec_lt p 162);
    }
  where
    word : (q c : ℕ) → Among q c (record { word = 18; check = 160 } ∷ record { word = 19; check = 161 } ∷ []) → Among q c (codewords sample)
    word q c m = subst (Among q c) (sym sample_codewords) m

    others : (p : ℕ) → Elsewhere sample p → Dec (p < 162) → at every_hit p ≡ at sample p
    others p o (yes l) = absurd (go (ℕ_discrete 18 (p / 8)) (ℕ_discrete 19 (p / 8)) (ℕ_discrete 160 p) (ℕ_discrete 161 p))
      where
        go : Dec (18 ≡ p / 8) → Dec (19 ≡ p / 8) → Dec (160 ≡ p) → Dec (161 ≡ p) → ⊥
        go (yes e) b c d = o.no_word 18 160 (word 18 160 (here refl refl)) e
        go (no a) (yes e) c d = o.no_word 19 161 (word 19 161 (later (here refl refl))) e
        go (no a) (no b) (yes e) d = o.no_check 18 160 (word 18 160 (here refl refl)) e
        go (no a) (no b) (no c) (yes e) = o.no_check 19 161 (word 19 161 (later (here refl refl))) e
        go (no a) (no b) (no c) (no d) = let h : header_length (count sample) ≤ p = o.past in omega (arith, sample_count)
    others p o (no n) = hit_rest p (omega arith)

-- and hits every byte of the header
pub hit_header : (p : ℕ) → p < 144 → at every_hit p ≡ at sample p → ⊥
unfolding sample every_hit every
hit_header p h e =
    differ (eqb (at every_hit p) (at sample p)) (up_to_lem 144 (λ i. not (eqb (at every_hit i) (at sample i))) tt p h) (eq-eqb (at every_hit p) (at sample p) e)
  where
    differ : (b : Bool) → T (not b) → b ≡ true → ⊥
    differ true t g = t
    differ false t g = let z : ◌≡◌ {A = ℕ} 0 1 = cc in omega arith

-- ---- two bits of one word are not allowed, nor two copies of one header bit

unfoldable pub two_bits : List ℕ
unfolding sample
two_bits = set sample 144 2

pub two_bits_excluded : Damaged 1 sample two_bits → ⊥
unfolding sample two_bits distance read bit
two_bits_excluded a =
    let h : bits_off sample two_bits 18 160 ≤ 1 =
    a.words 18 160 (subst (Among 18 160) (sym sample_codewords) (here refl refl)) in
    omega arith

unfoldable pub two_copies : List ℕ
unfolding sample
two_copies = set (set sample 0 0x59) 16 0x59

pub two_copies_excluded : Damaged 1 sample two_copies → ⊥
unfolding sample two_copies bit
two_copies_excluded a =
    let h : off sample two_copies 0 0 + off sample two_copies 16 0 + off sample two_copies 32 0 ≤ 1 = a.prologue 0 0 (lit< tt) (lit< tt) in
    omega arith
