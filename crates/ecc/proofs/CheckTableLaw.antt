-- The table of check bytes: how it is filled, and that a word's check byte is the exclusive-or of its eight entries. Assumes nothing.
use mathlib.Core.Path.{◌≡◌, refl, sym, ap, ap₂, ◌∙◌}
use mathlib.Core.List.{List, [], ◌∷◌}
use Prim.Native.Nat.{ℕ, zero, suc, ◌+◌, ◌*◌, ◌/◌, ◌%◌, ◌^◌, ◌≤◌, ◌<◌}
use native.Mathlib.Nat.{one-mul, mul-one, zero-mul, div-one, mul_assoc, mul_comm, mul-mod_left, mul-div_cancel, mod-lt, pow-suc}
use native.Mathlib.Omega.{arith}
use borrow.Author.Count.{below_more}
use lib.Dec.{lit<}
use lib.Bits.{bit_xor, xor_comm, xor_shifted}
use lib.ListN.{length, take, set, length-set}
use lib.Seq.{ext_get_or, get_or-set_same, get_or-set_other}
use lib.Pow.{shl_exact, pow-add, pow_mono, pow_pos, mod-pow-add, split}
use Rattle.bits.specs.Bit.{is_one, bit}
use Rattle.bits.specs.Linear.{pick, xor_columns}
use Rattle.bits.proofs.LinearLaw.{xor_shl, xor_columns_xor, xor_columns_zero}
use Rattle.model.specs.Bytes.{at, word_at, tabulate}
use Rattle.model.specs.Parity.{columns, check_of, Class, class_of, syndrome, decode, outcome_as, outcome}
use Rattle.model.specs.Scan.{report, slice_words, slice_scan}
use Rattle.model.proofs.BytesLaw.{length-tabulate, get_d_tabulate, tabulate-ext}
use Rattle.model.proofs.ParityLaw.{check_linear}
use Rattle.ecc.specs.CheckTable.{entry_at, check_table, Filled, entry_for, entries_to, check_with, decode_with, outcome_with, slice_scan_with}

-- ---- one entry

-- entry b of place k
entry : (k b : ℕ) → b < 256 → entry_at (256 * k + b) ≡ check_of (b * 2 ^ (8 * k))
unfolding entry_at
entry k b h =
    let d : (256 * k + b) / 256 ≡ k = omega arith in
    let m : (256 * k + b) % 256 ≡ b = omega arith in
    rw (d, m)

-- a bit's bytes: as many as the code counts, and within the place
pub bit_count : (i : ℕ) → i < 8 → (1 * 2 ^ i) % 2 ^ 64 ≡ 2 ^ i
bit_count i h = shl_exact {a = 1} 1 i 64 (lit< tt) (omega arith) ∙ one-mul (2 ^ i)

pub bit_fits : (i : ℕ) → i < 8 → 2 ^ i + 2 ^ i ≤ 256
bit_fits i h = omega (arith, pow-suc 2 i, pow_mono {i = suc i} {j = 8} h)

-- a byte with bit i as its highest has a lower one's entry, with the column of that bit put in
pub twice : (k i j : ℕ) → k < 8 → i < 8 → j < 2 ^ i → entry_at (256 * k + 2 ^ i + j) ≡ bit_xor (entry_at (256 * k + j)) (at columns (8 * k + i))
twice k i j hk hi hj =
    let t = bit_fits i hi in
    let g : 256 * k + 2 ^ i + j ≡ 256 * k + (2 ^ i + j) = omega arith in
    ap entry_at g
    ∙ entry k (2 ^ i + j) (omega arith)
    ∙ ap (λ (n : ℕ). check_of (n * 2 ^ (8 * k))) top
    ∙ ap check_of (xor_shl j (2 ^ i) (8 * k) ∙ ap (bit_xor (j * 2 ^ (8 * k))) moved)
    ∙ check_linear (j * 2 ^ (8 * k)) (8 * k + i) (omega arith)
    ∙ ap (λ (n : ℕ). bit_xor n (at columns (8 * k + i))) (sym (entry k j (omega arith)))
  where
    top : 2 ^ i + j ≡ bit_xor j (2 ^ i)
    top = let e : 1 * 2 ^ i + j ≡ 2 ^ i + j = omega arith in sym e ∙ sym (xor_shifted 1 i j hj) ∙ ap (λ (n : ℕ). bit_xor n j) (one-mul (2 ^ i)) ∙ xor_comm (2 ^ i) j

    moved : 2 ^ i * 2 ^ (8 * k) ≡ 2 ^ (8 * k + i)
    moved = mul_comm (2 ^ i) (2 ^ (8 * k)) ∙ sym (pow-add 2 (8 * k) i)

-- ---- filling

pub empty : (t : List ℕ) → length t ≡ 2048 → Filled 0 t
empty t e = record { long = e; right = λ i h. absurd (omega arith) }

pub put : (n v : ℕ) (t : List ℕ) → n < 2048 → v ≡ entry_at n → Filled n t → Filled (n + 1) (set t n v)
put n v t h e f =
    record {
      long = length-set t n v ∙ f.long;
      right =
          below_more (λ i. at (set t n v) i ≡ entry_at i) n
          (λ i l. get_or-set_other t n i v 0 (omega arith) ∙ f.right i l)
          (get_or-set_same t n v 0 (omega (arith, f.long)) ∙ e);
    }

-- byte 0 of a place
pub first : (k : ℕ) → 0 ≡ entry_at (256 * k)
unfolding check_of
first k =
    let z : 256 * k + 0 ≡ 256 * k = omega arith in
    sym (xor_columns_zero (take 64 columns)) ∙ ap check_of (sym (zero-mul (2 ^ (8 * k)))) ∙ sym (entry k 0 (lit< tt)) ∙ ap entry_at z

pub all_filled : (t : List ℕ) → Filled 2048 t → t ≡ check_table
unfolding check_table
all_filled t f =
    ext_get_or 0 t (tabulate 2048 entry_at) (f.long ∙ sym (length-tabulate 2048 entry_at))
    (λ i h. f.right i (omega (arith, f.long)) ∙ sym (get_d_tabulate 2048 entry_at i 0 (omega (arith, f.long))))

-- ---- a word by its places

xor_columns_past : (cs : List ℕ) (n : ℕ) → xor_columns cs (n * 2 ^ length cs) ≡ 0
unfolding xor_columns bit
xor_columns_past [] n = refl
xor_columns_past (c ∷ cs) n =
    ap (λ (w : ℕ). bit_xor (pick (is_one (w % 2)) c) (xor_columns cs (w / 2))) shifted
    ∙ ap₂ (λ (x y : ℕ). bit_xor (pick (is_one x) c) (xor_columns cs y)) (mul-mod_left m 2) (mul-div_cancel m (lit< tt))
    ∙ xor_columns_past cs n
  where
    m : ℕ
    m = n * 2 ^ length cs

    shifted : n * 2 ^ suc (length cs) ≡ m * 2
    shifted = ap (λ (k : ℕ). n * k) (pow-suc 2 (length cs)) ∙ sym (mul_assoc n (2 ^ length cs) 2)

module _ (w : ℕ) where
  table_entry : (k : ℕ) → k < 8 → entry_for check_table w k ≡ check_of (w / 2 ^ (8 * k) % 256 * 2 ^ (8 * k))
  unfolding check_table
  table_entry k h =
      let b : w / 2 ^ (8 * k) % 256 < 256 = mod-lt (w / 2 ^ (8 * k)) (lit< tt) in
      get_d_tabulate 2048 entry_at (256 * k + w / 2 ^ (8 * k) % 256) 0 (omega arith) ∙ entry k (w / 2 ^ (8 * k) % 256) b

  -- places 0 to k make the check byte of the word's low 8 * (k + 1) bits
  table_low : (k : ℕ) → k < 8 → entries_to check_table w k ≡ check_of (w % 2 ^ (8 * (k + 1)))
  unfolding entries_to check_of
  table_low zero h = table_entry 0 h ∙ ap check_of (mul-one (w / 1 % 256) ∙ ap (λ (n : ℕ). n % 256) (div-one w))
  table_low (suc k) h =
      let m : 8 * (k + 1) ≡ 8 * suc k = omega arith in
      let n : 8 + 8 * suc k ≡ 8 * (suc k + 1) = omega arith in
      let q = w / 2 ^ (8 * suc k) % 256 in
      ap₂ bit_xor (table_low k (omega arith) ∙ ap (λ (i : ℕ). check_of (w % 2 ^ i)) m) (table_entry (suc k) h)
      ∙ sym (xor_columns_xor (take 64 columns) (w % 2 ^ (8 * suc k)) (q * 2 ^ (8 * suc k)))
      ∙ ap check_of
      (xor_comm (w % 2 ^ (8 * suc k)) (q * 2 ^ (8 * suc k))
      ∙ xor_shifted q (8 * suc k) (w % 2 ^ (8 * suc k)) (mod-lt w (pow_pos (8 * suc k)))
      ∙ sym (mod-pow-add w 8 (8 * suc k)) ∙ ap (λ (i : ℕ). w % 2 ^ i) n)

  -- bits past the columns count for nothing
  low_bits : check_of (w % 2 ^ 64) ≡ check_of w
  unfolding check_of columns
  low_bits =
      sym (ap (λ (n : ℕ). bit_xor n (xor_columns (take 64 columns) (w % 2 ^ 64))) (xor_columns_past (take 64 columns) (w / 2 ^ 64)))
      ∙ sym (xor_columns_xor (take 64 columns) (w / 2 ^ 64 * 2 ^ 64) (w % 2 ^ 64))
      ∙ ap (xor_columns (take 64 columns)) (xor_shifted (w / 2 ^ 64) 64 (w % 2 ^ 64) (mod-lt w (pow_pos 64)) ∙ split w 64)

  pub table_check : check_with check_table w ≡ check_of w
  unfolding check_with
  table_check = table_low 7 (lit< tt) ∙ low_bits

  module _ (c : ℕ) where
    pub table_decode : decode_with check_table w c ≡ decode w c
    unfolding decode_with decode syndrome
    table_decode = ap (λ (k : ℕ). class_of (bit_xor k c)) table_check

    pub table_outcome : outcome_with check_table w c ≡ outcome w c
    unfolding outcome_with outcome
    table_outcome = ap (λ (k : Class). outcome_as k w) table_decode

-- the words of a run of bytes
pub table_scan : (x plane : List ℕ) → slice_scan_with check_table x plane ≡ slice_scan x plane
unfolding slice_scan_with slice_scan
table_scan x plane =
    ap report
    (tabulate-ext (slice_words x plane) (λ w. decode_with check_table (word_at x w) (at plane w)) (λ w. decode (word_at x w) (at plane w))
    (λ w h. table_decode (word_at x w) (at plane w)))
