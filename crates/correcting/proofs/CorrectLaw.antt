-- A codeword corrected, and a run of them. Assumes nothing.
use mathlib.Core.Path.{◌≡◌, refl, sym, ap, ◌∙◌}
use mathlib.Core.Bool.{Bool, true, false, cond}
use mathlib.Core.List.{List, [], ◌∷◌, ◌++◌, append-nil}
use Prim.Native.Nat.{ℕ, suc, ◌+◌, ◌-◌, ◌*◌, ◌≤◌, ◌<◌}
use native.Mathlib.Nat.{zero-add}
use native.Mathlib.Omega.{arith}
use Rattle.std.specs.Prelude.{unwrap_or}
use Rattle.std.specs.List.{slice_range}
use lib.ListN.{length, drop, set, drop_of_length-le, length-take, length-drop}
use lib.Seq.{sets, sets-eq, get_or-take, get_or-drop}
use Rattle.model.specs.Bytes.{at, word_at, le_bytes, read_in}
use Rattle.model.proofs.BytesLaw.{read_ext}
use Rattle.scalar.proofs.OrZero.{or_zero_in}
use Rattle.model.specs.Parity.{Class, clean, uncorrectable, check_of, decode, Outcome, clean_word, corrected_word, uncorrectable_word, outcome}
use Rattle.model.specs.Scan.{Codeword, codewords_from, codewords_in, Visit, class_at}
use Rattle.model.specs.Scan.{Report, report}
use Rattle.model.specs.Steps.{plus, any_of}
use Rattle.scan.specs.Tally.{report_on}
use Rattle.scan.proofs.TallyLaw.{count_next, count_none}
use Rattle.scan.proofs.WordLaw.{class_clean, class_uncorrectable, class_flipped}
use Rattle.correcting.specs.Correct.{stored_as, correct_at, correct_all, met}

-- ---- a part that is written in full, and comes back

pub stored_all : (x ys : List ℕ) → length x ≡ length ys → sets x 0 ys ≡ ys
stored_all x ys e =
    sets-eq ys x 0 (omega (arith, e)) ∙ ap (λ (z : List ℕ). ys ++ z) (ap (λ (n : ℕ). drop n x) (zero-add (length ys)) ∙ drop_of_length-le x {i = length ys} (omega (arith, e))) ∙ append-nil ys

-- ---- what a codeword is left as

left_clean : (b : Bool) (p : Codeword) (x : List ℕ) → x ≡ stored_as b clean p x
left_clean true p x = refl
left_clean false p x = refl

left_uncorrectable : (b : Bool) (p : Codeword) (x : List ℕ) → x ≡ stored_as b uncorrectable p x
left_uncorrectable true p x = refl
left_uncorrectable false p x = refl

module _ (b : Bool) (x : List ℕ) (p : Codeword) where
  pub kept_clean : (v : ℕ) → clean_word v ≡ outcome (word_at x p.word) (at x p.check) → x ≡ correct_at b p x
  unfolding correct_at
  kept_clean v e = left_clean b p x ∙ ap (λ (k : Class). stored_as b k p x) (sym (class_clean x p v e))

  pub kept_uncorrectable : uncorrectable_word ≡ outcome (word_at x p.word) (at x p.check) → x ≡ correct_at b p x
  unfolding correct_at
  kept_uncorrectable e = left_uncorrectable b p x ∙ ap (λ (k : Class). stored_as b k p x) (sym (class_uncorrectable x p e))

pub put_corrected : (b : Bool) (x : List ℕ) (p : Codeword) (v : ℕ) → corrected_word v ≡ outcome (word_at x p.word) (at x p.check)
    → sets (cond b (set x p.check (check_of v)) x) (8 * p.word) (le_bytes 8 v) ≡ correct_at b p x
unfolding correct_at
put_corrected true x p v e =
    let f = class_flipped x p v e in
    ap (λ (n : ℕ). sets (set x p.check (check_of n)) (8 * p.word) (le_bytes 8 n)) f.2 ∙ ap (λ (k : Class). stored_as true k p x) (sym f.1)
put_corrected false x p v e =
    let f = class_flipped x p v e in
    ap (λ (n : ℕ). sets x (8 * p.word) (le_bytes 8 n)) f.2 ∙ ap (λ (k : Class). stored_as false k p x) (sym f.1)

-- ---- a run of words, of which k are done

module _ (b : Bool) (n word check k : ℕ) (x : List ℕ) where
  pub correct_next : k < n
      → correct_all b (codewords_from (n - k) (word + k) (check + k)) x
      ≡ correct_all b (codewords_from (n - (k + 1)) (word + (k + 1)) (check + (k + 1))) (correct_at b (record { word = word + k; check = check + k }) x)
  unfolding correct_all codewords_from
  correct_next h =
      let e : n - k ≡ suc (n - (k + 1)) = omega arith in
      let a : suc (word + k) ≡ word + (k + 1) = omega arith in
      let c : suc (check + k) ≡ check + (k + 1) = omega arith in
      rw (e, a, c)

  pub correct_done : n ≤ k → correct_all b (codewords_from (n - k) (word + k) (check + k)) x ≡ x
  unfolding correct_all codewords_from
  correct_done h = let e : n - k ≡ 0 = omega arith in rw e

  pub met_next : (t : Report) (y : List ℕ) (o : Outcome) → k < n → o ≡ outcome (word_at x (word + k)) (at x (check + k))
      → y ≡ correct_at b (record { word = word + k; check = check + k }) x
      → plus (plus t (report_on o)) (report (met b y (codewords_from (n - (k + 1)) (word + (k + 1)) (check + (k + 1))))) ≡ plus t (report (met b x (codewords_from (n - k) (word + k) (check + k))))
  unfolding met codewords_from outcome class_at
  met_next t y o h e f =
      let m : n - k ≡ suc (n - (k + 1)) = omega arith in
      let a : suc (word + k) ≡ word + (k + 1) = omega arith in
      let c : suc (check + k) ≡ check + (k + 1) = omega arith in
      rw (m, a, c, e, f)
      (count_next t (decode (word_at x (word + k)) (at x (check + k))) (word_at x (word + k))
      (met b (correct_at b (record { word = word + k; check = check + k }) x) (codewords_from (n - (k + 1)) (word + (k + 1)) (check + (k + 1)))))

  pub met_done : (t : Report) → n ≤ k → plus t (report (met b x (codewords_from (n - k) (word + k) (check + k)))) ≡ t
  unfolding met codewords_from
  met_done t h = let e : n - k ≡ 0 = omega arith in rw e (count_none t)

-- ---- the words of a region

pub none_there : (vs : List Visit) → vs ≡ [] → (any_of vs ≡ false) × (codewords_in vs ≡ [])
unfolding codewords_in
none_there vs e = (rw e, rw e)

pub none_corrected : (b : Bool) (x : List ℕ) (ps : List Codeword) → ps ≡ [] → x ≡ correct_all b ps x
unfolding correct_all
none_corrected b x ps e = rw e

pub none_met : (b : Bool) (x : List ℕ) (ps : List Codeword) → ps ≡ [] → met b x ps ≡ []
unfolding met
none_met b x ps e = rw e

length_met : (b : Bool) (x : List ℕ) (ps : List Codeword) → length (met b x ps) ≡ length ps
unfolding met
length_met b x [] = refl
length_met b x (p ∷ ps) = ap suc (length_met b (correct_at b p x) ps)

pub met_words : (b : Bool) (x : List ℕ) (ps : List Codeword) → (report (met b x ps)).words ≡ length ps
unfolding report
met_words b x ps = length_met b x ps

-- ---- a word read off its own eight bytes

pub read_part : (x : List ℕ) (p v : ℕ) → p + 8 ≤ length x → v ≡ unwrap_or (read_in 8 (slice_range x p (p + 8)) 0) 0 → v ≡ unwrap_or (read_in 8 x p) 0
read_part x p v h e =
    let y = slice_range x p (p + 8) in
    let l : length y ≡ 8 = simp (length-take, length-drop) (omega arith) in
    e ∙ or_zero_in 8 y 0 (omega (arith, l))
    ∙ read_ext 8 y x 0 p (λ j m. ap (at y) (zero-add j) ∙ get_or-take (p + 8 - p) (drop p x) j 0 (omega arith) ∙ get_or-drop p x j 0)
    ∙ sym (or_zero_in 8 x p h)
