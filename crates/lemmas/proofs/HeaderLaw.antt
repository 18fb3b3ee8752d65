-- The voted header: three copies of a run of bytes are voted to it, and images of one length with the same voted bytes have the same entries, examined words and verdicts. Assumes nothing.
use mathlib.Core.Path.{◌≡◌, sym, ap, ap₂, ◌∙◌}
use mathlib.Core.List.{List, [], ◌++◌, append-nil}
use Prim.Native.Nat.{ℕ, ◌+◌, ◌*◌, ◌≤◌, ◌<◌}
use native.Mathlib.Nat.{zero-add}
use native.Mathlib.Omega.{arith}
use lib.ListN.{length}
use lib.Seq.{ext_get_or}
use Rattle.model.specs.Bytes.{at, thrice}
use Rattle.model.specs.Layout.{maj3, voted, prologue, count_in, count, header_length, directory_bytes_of, directory_bytes, header, directory_of, directory, entries}
use Rattle.model.specs.Refusals.{◌then◌}
use Rattle.model.specs.Parse.{parse_verdict}
use Rattle.model.specs.Scan.{visits, codewords_in, codewords}
use Rattle.model.specs.Mend.{mend_verdict}
use Rattle.lemmas.proofs.ApartVerdict.{apart_verdict, mend_verdict_lem}
use Rattle.model.proofs.BytesLaw.{tabulate-ext, thrice_0, thrice_1, thrice_2, thrice_3}
use Rattle.model.proofs.LayoutLaw.{maj3_same, length_voted, at_voted, length_prologue, length_directory_bytes}

-- ---- three copies of v, from base on

pub record Copies (y : List ℕ) (base k : ℕ) (v : List ℕ) : Type 0 where
  pub first : (j : ℕ) → j < k → at y (base + j) ≡ at v j
  pub second : (j : ℕ) → j < k → at y (base + k + j) ≡ at v j
  pub third : (j : ℕ) → j < k → at y (base + 2 * k + j) ≡ at v j

pub voted_copies : (y : List ℕ) (base k : ℕ) (v : List ℕ) → length v ≡ k → Copies y base k v → voted base k y ≡ v
voted_copies y base k v e c =
    ext_get_or 0 (voted base k y) v (length_voted base k y ∙ sym e)
    (λ j h. let l : j < k = omega (arith, length_voted base k y) in
    at_voted base k y j l ∙ simp (c.first j l, c.second j l, c.third j l) (maj3_same (at v j)))

-- the copies of a header that is laid out thrice
module _ (y p d : List ℕ) (k : ℕ) (lp : length p ≡ 16) (ld : length d ≡ k)
    (f : (i : ℕ) → i < 48 + 3 * k → at y i ≡ at (thrice p ++ thrice d) i) where
  pub copies_first : Copies y 0 16 p
  copies_first =
      record {
        first = λ j h. f (0 + j) (omega arith) ∙ ap (at (thrice p ++ thrice d)) (zero-add j) ∙ thrice_0 p (thrice d) 16 lp j h;
        second = λ j h. f (16 + j) (omega arith) ∙ thrice_1 p (thrice d) 16 lp j h;
        third = λ j h. f (32 + j) (omega arith) ∙ thrice_2 p (thrice d) 16 lp j h;
      }

  low : (j : ℕ) → at (thrice p ++ thrice d) (48 + j) ≡ at (thrice d ++ []) j
  low j = thrice_3 p (thrice d) 16 lp j ∙ ap (λ (l : List ℕ). at l j) (sym (append-nil (thrice d)))

  pub copies_second : Copies y 48 k d
  copies_second =
      record {
        first = λ j h. f (48 + j) (omega arith) ∙ low j ∙ thrice_0 d [] k ld j h;
        second = λ j h. let m : 48 + k + j ≡ 48 + (k + j) = omega arith in
            f (48 + k + j) (omega arith) ∙ ap (at (thrice p ++ thrice d)) m ∙ low (k + j) ∙ thrice_1 d [] k ld j h;
        third = λ j h. let m : 48 + 2 * k + j ≡ 48 + (2 * k + j) = omega arith in
            f (48 + 2 * k + j) (omega arith) ∙ ap (at (thrice p ++ thrice d)) m ∙ low (2 * k + j) ∙ thrice_2 d [] k ld j h;
      }

-- ---- two images with the same voted bytes

pub record SameHeader (x y : List ℕ) : Type 0 where
  pub count≡ : count x ≡ count y
  pub prologue≡ : prologue x ≡ prologue y
  pub directory_bytes≡ : directory_bytes x ≡ directory_bytes y

module _ (x y : List ℕ) (s : SameHeader x y) where
  pub same_header : header x ≡ header y
  unfolding header
  same_header = ap₂ (λ (p d : List ℕ). thrice p ++ thrice d) s.prologue≡ s.directory_bytes≡

  pub same_directory : directory x ≡ directory y
  unfolding directory directory_of directory_bytes
  same_directory = ap₂ entries s.count≡ s.directory_bytes≡

module _ (x y : List ℕ) (l : length x ≡ length y) (s : SameHeader x y) where
  pub same_visits : visits x ≡ visits y
  unfolding visits
  same_visits = rw (l, same_directory x y s)

  pub same_codewords : codewords x ≡ codewords y
  unfolding codewords
  same_codewords = ap codewords_in same_visits

  pub same_parse : parse_verdict x ≡ parse_verdict y
  unfolding parse_verdict
  same_parse = rw (l, s.prologue≡, same_directory x y s)

  pub same_verdict : mend_verdict x ≡ mend_verdict y
  same_verdict = mend_verdict_lem x ∙ same_walk ∙ sym (mend_verdict_lem y)
    where
      same_walk : (parse_verdict x then apart_verdict (count x) 0 [] (directory x)) ≡ (parse_verdict y then apart_verdict (count y) 0 [] (directory y))
      same_walk = rw (same_parse, same_directory x y s, s.count≡)

-- it is enough that x has the votes of y at the places that y's count gives
pub same_votes : (x y : List ℕ) → prologue x ≡ prologue y → directory_bytes_of (count y) x ≡ directory_bytes y → SameHeader x y
unfolding count directory_bytes
same_votes x y p d =
    let n : count x ≡ count y = ap count_in p in
    record { count≡ = n; prologue≡ = p; directory_bytes≡ = ap (λ (m : ℕ). directory_bytes_of m x) n ∙ d }

-- ---- an image whose header copies are the votes of x

module _ (x y : List ℕ) (f : (p : ℕ) → p < header_length (count x) → at y p ≡ at (header x) p) where
  laid : (i : ℕ) → i < 48 + 3 * (16 * count x) → at y i ≡ at (thrice (prologue x) ++ thrice (directory_bytes x)) i
  unfolding header
  laid i h = f i (omega arith)

  pub prologue_copies : Copies y 0 16 (prologue x)
  prologue_copies = copies_first y (prologue x) (directory_bytes x) (16 * count x) (length_prologue x) (length_directory_bytes x) laid

  pub directory_copies : Copies y 48 (16 * count x) (directory_bytes x)
  directory_copies = copies_second y (prologue x) (directory_bytes x) (16 * count x) (length_prologue x) (length_directory_bytes x) laid

  pub copied : SameHeader y x
  unfolding prologue directory_bytes_of
  copied =
      same_votes y x (voted_copies y 0 16 (prologue x) (length_prologue x) prologue_copies)
      (voted_copies y 48 (16 * count x) (directory_bytes x) (length_directory_bytes x) directory_copies)

-- ---- an image with the header bytes of x

pub voted_same : (x y : List ℕ) (base k : ℕ) → ((i : ℕ) → base ≤ i → i < base + 3 * k → at y i ≡ at x i) → voted base k y ≡ voted base k x
unfolding voted
voted_same x y base k f =
    tabulate-ext k (λ j. maj3 (at y (base + j)) (at y (base + k + j)) (at y (base + 2 * k + j))) (λ j. maj3 (at x (base + j)) (at x (base + k + j)) (at x (base + 2 * k + j)))
    (λ j h. rw (f (base + j) (omega arith) (omega arith), f (base + k + j) (omega arith) (omega arith), f (base + 2 * k + j) (omega arith) (omega arith)))

pub header_kept : (x y : List ℕ) → ((i : ℕ) → i < header_length (count x) → at y i ≡ at x i) → SameHeader y x
unfolding prologue directory_bytes directory_bytes_of
header_kept x y f =
    same_votes y x (voted_same x y 0 16 (λ i a h. f i (omega arith))) (voted_same x y 48 (16 * count x) (λ i a h. f i (omega arith)))
