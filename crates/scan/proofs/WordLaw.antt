-- What a word of the image and its check byte say, and the class that follows. Assumes nothing.
use mathlib.Core.Path.{◌≡◌, refl, sym, ap, ◌∙◌}
use mathlib.Core.List.{List}
use Rattle.std.specs.Prelude.{unwrap_or}
use Prim.Native.Nat.{ℕ, ◌+◌, ◌*◌, ◌≤◌}
use native.Mathlib.Omega.{arith}
use lib.ListN.{length}
use Rattle.model.specs.Bytes.{at, word_at, read_in}
use Rattle.model.specs.Parity.{Class, clean, flipped, uncorrectable, flip_word, check_of, decode, Outcome, clean_word, corrected_word, uncorrectable_word, outcome_as, outcome}
use Rattle.model.specs.Scan.{Codeword, class_at}
use Rattle.model.proofs.ParityLaw.{decode_clean}
use Rattle.scalar.proofs.OrZero.{or_zero_in}

-- ---- w is what code reads of a word, c its check byte

module _ (x : List ℕ) (word check w : ℕ) (h : 8 * word + 8 ≤ length x) (e : w ≡ unwrap_or (read_in 8 x (8 * word)) 0) where
  pub decoded : {o : Outcome} → o ≡ outcome w (at x check) → o ≡ outcome (word_at x word) (at x check)
  decoded f = f ∙ ap (λ (n : ℕ). outcome n (at x check)) (e ∙ or_zero_in 8 x (8 * word) h)

  -- a word with the check byte that it has to have is clean
  pub matched_clean : (k : ℕ) → k ≡ check_of w → k ≡ at x check → clean_word w ≡ outcome (word_at x word) (at x check)
  unfolding outcome
  matched_clean k f g = decoded (ap (λ (r : Class). outcome_as r w) (sym (ap (decode w) (sym g ∙ f) ∙ decode_clean w)))

-- ---- the class that an outcome tells

told_clean : (k : Class) (w v : ℕ) → clean_word v ≡ outcome_as k w → k ≡ clean
told_clean clean w v e = refl
told_clean (flipped i) w v e = cc
told_clean uncorrectable w v e = cc

told_uncorrectable : (k : Class) (w : ℕ) → uncorrectable_word ≡ outcome_as k w → k ≡ uncorrectable
told_uncorrectable clean w e = cc
told_uncorrectable (flipped i) w e = cc
told_uncorrectable uncorrectable w e = refl

told_flipped : (k : Class) (w v : ℕ) → corrected_word v ≡ outcome_as k w → (i : ℕ) × (k ≡ flipped i) × (v ≡ flip_word i w)
told_flipped clean w v e = let z : ◌≡◌ {A = ℕ} 0 1 = cc in absurd (omega arith)
told_flipped (flipped i) w v e = (i, refl, cc)
told_flipped uncorrectable w v e = let z : ◌≡◌ {A = ℕ} 0 1 = cc in absurd (omega arith)

module _ (x : List ℕ) (p : Codeword) where
  pub class_clean : (v : ℕ) → clean_word v ≡ outcome (word_at x p.word) (at x p.check) → class_at x p ≡ clean
  unfolding outcome class_at
  class_clean v e = told_clean (decode (word_at x p.word) (at x p.check)) (word_at x p.word) v e

  pub class_uncorrectable : uncorrectable_word ≡ outcome (word_at x p.word) (at x p.check) → class_at x p ≡ uncorrectable
  unfolding outcome class_at
  class_uncorrectable e = told_uncorrectable (decode (word_at x p.word) (at x p.check)) (word_at x p.word) e

  pub class_flipped : (v : ℕ) → corrected_word v ≡ outcome (word_at x p.word) (at x p.check)
      → (i : ℕ) × (class_at x p ≡ flipped i) × (v ≡ flip_word i (word_at x p.word))
  unfolding outcome class_at
  class_flipped v e = told_flipped (decode (word_at x p.word) (at x p.check)) (word_at x p.word) v e
