-- A word of a plane's region and a run of them, as the code takes them: by number, and one after the other. Assumes nothing.
use mathlib.Core.Path.{◌≡◌, sym, ap, ◌∙◌}
use mathlib.Core.List.{List, []}
use Rattle.std.specs.Prelude.{None, Some, unwrap_or}
use Prim.Native.Nat.{ℕ, ◌+◌, ◌*◌, ◌≤◌, ◌<◌}
use native.Mathlib.Numerals.{add-one}
use native.Mathlib.Omega.{arith}
use borrow.Author.Tests.{lt-ltb, le-ltb}
use lib.Bits.{bit_xor}
use lib.ListN.{length, drop}
use lib.Seq.{drop-length}
use Rattle.model.specs.Bytes.{at, read_in, word_at, tabulate}
use Rattle.model.specs.Parity.{Class, class_of, Outcome, outcome}
use Rattle.model.specs.Scan.{is_corrected, is_uncorrectable, total, report, slice_words, slice_word}
use Rattle.model.proofs.BytesLaw.{length-tabulate, drop-tabulate}
use Rattle.scalar.proofs.OrZero.{or_zero_in}
use Rattle.ecc.specs.CheckTable.{check_with, decode_with, slice_scan_with}

module _ (x plane : List ℕ) where
  -- word w, past the shorter of the two and before
  pub word_past : (w : ℕ) → slice_words x plane ≤ w → None ≡ slice_word x plane w
  unfolding slice_word
  word_past w h = rw (le-ltb w (slice_words x plane) h)

  pub word_there : (w : ℕ) → w < slice_words x plane → Some (outcome (word_at x w) (at plane w)) ≡ slice_word x plane w
  unfolding slice_word
  word_there w h = rw (lt-ltb w (slice_words x plane) h)

  -- v was read at 8 * w: what it decodes to, word w decodes to
  module _ (w v : ℕ) (h : 8 * w + 8 ≤ length x) (e : v ≡ unwrap_or (read_in 8 x (8 * w)) 0) where
    word_read : v ≡ word_at x w
    word_read = e ∙ or_zero_in 8 x (8 * w) h

    pub decoded : {s : Outcome} → s ≡ outcome v (at plane w) → s ≡ outcome (word_at x w) (at plane w)
    decoded d = d ∙ ap (λ (n : ℕ). outcome n (at plane w)) word_read

    -- by a table
    pub syndrome_read : (t : List ℕ) {k : ℕ} → k ≡ check_with t v → class_of (bit_xor k (at plane w)) ≡ decode_with t (word_at x w) (at plane w)
    unfolding decode_with
    syndrome_read t d = ap (λ (n : ℕ). class_of (bit_xor n (at plane w))) (d ∙ ap (check_with t) word_read)

-- ---- the report, word by word

-- the classes of the words by a table
abbrev pub classes : List ℕ → List ℕ → List ℕ → List Class
classes t x plane = tabulate (slice_words x plane) (λ w. decode_with t (word_at x w) (at plane w))

-- `n` and the count of the words from `w` on are the count of all
abbrev pub Counted : (Class → ℕ) → List ℕ → List ℕ → List ℕ → ℕ → ℕ → Type 0
Counted f t x plane w n = n + total f (drop w (classes t x plane)) ≡ total f (classes t x plane)

module _ (t x plane : List ℕ) where
  one_more : (f : Class → ℕ) (w : ℕ) → w < slice_words x plane
      → total f (drop w (classes t x plane)) ≡ f (decode_with t (word_at x w) (at plane w)) + total f (drop (w + 1) (classes t x plane))
  unfolding total
  one_more f w h = rw (add-one, drop-tabulate (slice_words x plane) (λ i. decode_with t (word_at x i) (at plane i)) w h)

  pub turn : (f : Class → ℕ) (w n m : ℕ) → w < slice_words x plane → m ≡ n + f (decode_with t (word_at x w) (at plane w))
      → Counted f t x plane w n → Counted f t x plane (w + 1) m
  turn f w n m h e inv = omega (arith, one_more f w h)

  length_classes : length (classes t x plane) ≡ slice_words x plane
  length_classes = length-tabulate (slice_words x plane) (λ w. decode_with t (word_at x w) (at plane w))

  all : (f : Class → ℕ) (w n : ℕ) → w ≡ slice_words x plane → Counted f t x plane w n → n ≡ total f (classes t x plane)
  unfolding total
  all f w n e inv =
      let d : drop w (classes t x plane) ≡ [] = ap (λ (k : ℕ). drop k (classes t x plane)) (e ∙ sym length_classes) ∙ drop-length (classes t x plane) in
      omega (arith, ap (total f) d)

  pub scanned : (w n k : ℕ) → w ≡ slice_words x plane → Counted is_corrected t x plane w n → Counted is_uncorrectable t x plane w k
      → record { words = w; corrected = n; uncorrectable = k } ≡ slice_scan_with t x plane
  unfolding slice_scan_with report
  scanned w n k e f g = rw (all is_corrected w n e f, all is_uncorrectable w k e g, length_classes, e)
