-- Mend as code does it: the header half in place, vote by vote, and then the words; together they are mend. Assumes nothing.
use mathlib.Core.Path.{◌≡◌, refl, sym, ap, ap₂, ◌∙◌, subst}
use mathlib.Core.List.{List, [], ◌++◌, append-nil}
use Prim.Native.Nat.{ℕ, zero, suc, ◌+◌, ◌-◌, ◌*◌, ◌≤◌, ◌<◌}
use native.Mathlib.Nat.{zero-add}
use native.Mathlib.Decide.{dec_lt, ℕ_discrete}
use native.Mathlib.Omega.{arith}
use lib.ListN.{length, drop, set, length-set}
use lib.Seq.{get_or-set_same, get_or-set_other, ext_get_or}
use Rattle.model.specs.Bytes.{at, word_at, thrice, Bytes}
use Rattle.model.specs.Refusals.{fine}
use Rattle.model.specs.Layout.{maj3, voted, prologue, count, header_length, directory_bytes_of, directory_bytes, header}
use Rattle.model.specs.Parity.{fixed_word, fixed_check}
use Rattle.model.specs.Scan.{Codeword, Among, codewords}
use Rattle.model.specs.Mend.{mend_verdict, fix_all, mend_bytes}
use Rattle.model.proofs.BytesLaw.{at_left, read_ext, thrice_0, thrice_1, thrice_2, thrice_3}
use Rattle.model.proofs.LayoutLaw.{at_voted, length_header, length_prologue, length_directory_bytes}
use Rattle.lemmas.specs.Steps.{mend_header, mend_words, copy_vote, copy_votes}
use Rattle.lemmas.proofs.HeaderLaw.{Copies, SameHeader, copied, voted_same, same_codewords, same_verdict}
use Rattle.lemmas.proofs.BytesLow.{bytes_append, bytes_drop, bytes_header}
use Rattle.lemmas.proofs.Fold.{all_length, all_bytes, all_other, all_fixed}
use Rattle.lemmas.proofs.Apart.{accepted, apart, past}
use Rattle.lemmas.proofs.MendLaw.{one_result, past_header, under_header, meets_rule}

-- ---- one vote written to its three places

module _ (base k : ℕ) where
  ballot : List ℕ → ℕ → ℕ
  ballot x j = maj3 (at x (base + j)) (at x (base + k + j)) (at x (base + 2 * k + j))

  pub copy_vote_length : (j : ℕ) (x : List ℕ) → length (copy_vote base k j x) ≡ length x
  unfolding copy_vote
  copy_vote_length j x = simp length-set

  pub copy_votes_length : (m j : ℕ) (x : List ℕ) → length (copy_votes base k m j x) ≡ length x
  unfolding copy_votes
  copy_votes_length zero j x = refl
  copy_votes_length (suc m) j x = copy_votes_length m (suc j) (copy_vote base k j x) ∙ copy_vote_length j x

  module _ (j : ℕ) (h : j < k) (x : List ℕ) (l : base + 3 * k ≤ length x) where
    v : ℕ
    v = ballot x j

    x₁ : List ℕ
    x₁ = set x (base + j) v

    x₂ : List ℕ
    x₂ = set x₁ (base + k + j) v

    l₁ : length x₁ ≡ length x
    unfolding x₁
    l₁ = length-set x (base + j) v

    l₂ : length x₂ ≡ length x
    unfolding x₂
    l₂ = length-set x₁ (base + k + j) v ∙ l₁

    opened : copy_vote base k j x ≡ set x₂ (base + 2 * k + j) v
    unfolding copy_vote x₁ x₂ v ballot
    opened = refl

    at_third : at (copy_vote base k j x) (base + 2 * k + j) ≡ v
    at_third = ap (λ (z : List ℕ). at z (base + 2 * k + j)) opened ∙ get_or-set_same x₂ (base + 2 * k + j) v 0 (omega (arith, l₂))

    at_second : at (copy_vote base k j x) (base + k + j) ≡ v
    unfolding x₂
    at_second =
        ap (λ (z : List ℕ). at z (base + k + j)) opened ∙ get_or-set_other x₂ (base + 2 * k + j) (base + k + j) v 0 (omega arith)
        ∙ get_or-set_same x₁ (base + k + j) v 0 (omega (arith, l₁))

    at_first : at (copy_vote base k j x) (base + j) ≡ v
    unfolding x₂ x₁
    at_first =
        ap (λ (z : List ℕ). at z (base + j)) opened ∙ get_or-set_other x₂ (base + 2 * k + j) (base + j) v 0 (omega arith)
        ∙ get_or-set_other x₁ (base + k + j) (base + j) v 0 (omega arith)
        ∙ get_or-set_same x (base + j) v 0 (omega arith)

    pub at_other : (p : ℕ) → (p ≡ base + j → ⊥) → (p ≡ base + k + j → ⊥) → (p ≡ base + 2 * k + j → ⊥) → at (copy_vote base k j x) p ≡ at x p
    unfolding x₂ x₁
    at_other p a b c =
        ap (λ (z : List ℕ). at z p) opened ∙ get_or-set_other x₂ (base + 2 * k + j) p v 0 c ∙ get_or-set_other x₁ (base + k + j) p v 0 b
        ∙ get_or-set_other x (base + j) p v 0 a

  record Done (j : ℕ) (x y : List ℕ) : Type 0 where
    first : (i : ℕ) → j ≤ i → i < k → at y (base + i) ≡ ballot x i
    second : (i : ℕ) → j ≤ i → i < k → at y (base + k + i) ≡ ballot x i
    third : (i : ℕ) → j ≤ i → i < k → at y (base + 2 * k + i) ≡ ballot x i
    other : (p : ℕ) → ((i : ℕ) → j ≤ i → i < k → (p ≡ base + i → ⊥) × (p ≡ base + k + i → ⊥) × (p ≡ base + 2 * k + i → ⊥)) → at y p ≡ at x p

  done : (m j : ℕ) (x : List ℕ) → j + m ≡ k → base + 3 * k ≤ length x → Done j x (copy_votes base k m j x)
  unfolding copy_votes ballot v
  done zero j x e l =
      record { first = λ i a b. absurd (omega arith); second = λ i a b. absurd (omega arith); third = λ i a b. absurd (omega arith); other = λ p f. refl }
  done (suc m) j x e l =
      let h : j < k = omega arith in
      let y : List ℕ = copy_vote base k j x in
      let ly : base + 3 * k ≤ length y = omega (arith, copy_vote_length j x) in
      let r = done m (suc j) y (omega arith) ly in
      let same : (i : ℕ) → suc j ≤ i → i < k → ballot y i ≡ ballot x i = λ i a b.
      simp (
        at_other j h x l (base + i) (λ g. omega arith) (λ g. omega arith) (λ g. omega arith),
        at_other j h x l (base + k + i) (λ g. omega arith) (λ g. omega arith) (λ g. omega arith),
        at_other j h x l (base + 2 * k + i) (λ g. omega arith) (λ g. omega arith) (λ g. omega arith),
      ) in
      record {
        first = λ i a b. pick i (ℕ_discrete j i) a b (λ g. subst (λ (n : ℕ). at (copy_votes base k m (suc j) y) (base + n) ≡ ballot x n) g
            (r.other (base + j) (λ n c d. ((λ g. omega arith), (λ g. omega arith), (λ g. omega arith))) ∙ at_first j h x l))
            (λ c. r.first i c b ∙ same i c b);
        second = λ i a b. pick i (ℕ_discrete j i) a b (λ g. subst (λ (n : ℕ). at (copy_votes base k m (suc j) y) (base + k + n) ≡ ballot x n) g
            (r.other (base + k + j) (λ n c d. ((λ g. omega arith), (λ g. omega arith), (λ g. omega arith))) ∙ at_second j h x l))
            (λ c. r.second i c b ∙ same i c b);
        third = λ i a b. pick i (ℕ_discrete j i) a b (λ g. subst (λ (n : ℕ). at (copy_votes base k m (suc j) y) (base + 2 * k + n) ≡ ballot x n) g
            (r.other (base + 2 * k + j) (λ n c d. ((λ g. omega arith), (λ g. omega arith), (λ g. omega arith))) ∙ at_third j h x l))
            (λ c. r.third i c b ∙ same i c b);
        other = λ p f. r.other p (λ i c d. f i (omega arith) d) ∙ at_other j h x l p (f j (omega arith) h).0 (f j (omega arith) h).1 (f j (omega arith) h).2;
      }
    where
      pick : {A : Type 0} (i : ℕ) → Dec (j ≡ i) → j ≤ i → i < k → (j ≡ i → A) → (suc j ≤ i → A) → A
      pick i (yes g) a b f u = f g
      pick i (no n) a b f u = u (omega arith)

  pub votes_copied : (x : List ℕ) → base + 3 * k ≤ length x → Copies (copy_votes base k k 0 x) base k (voted base k x)
  unfolding ballot
  votes_copied x l =
      let d = done k 0 x (omega arith) l in
      record {
        first = λ i h. d.first i (omega arith) h ∙ sym (at_voted base k x i h);
        second = λ i h. d.second i (omega arith) h ∙ sym (at_voted base k x i h);
        third = λ i h. d.third i (omega arith) h ∙ sym (at_voted base k x i h);
      }

  pub votes_others : (x : List ℕ) → base + 3 * k ≤ length x → (p : ℕ) → base + 3 * k ≤ p → at (copy_votes base k k 0 x) p ≡ at x p
  votes_others x l p h = (done k 0 x (omega arith) l).other p (λ i a b. ((λ g. omega arith), (λ g. omega arith), (λ g. omega arith)))

  pub votes_before : (x : List ℕ) → base + 3 * k ≤ length x → (p : ℕ) → p < base → at (copy_votes base k k 0 x) p ≡ at x p
  votes_before x l p h = (done k 0 x (omega arith) l).other p (λ i a b. ((λ g. omega arith), (λ g. omega arith), (λ g. omega arith)))

-- ---- three copies of v are v thrice

copies_thrice : (y v r : List ℕ) (base k : ℕ) → length v ≡ k → Copies y base k v → (p : ℕ) → p < 3 * k → at y (base + p) ≡ at (thrice v ++ r) p
copies_thrice y v r base k e c p h = go (dec_lt p k) (dec_lt p (2 * k))
  where
    go : Dec (p < k) → Dec (p < 2 * k) → at y (base + p) ≡ at (thrice v ++ r) p
    go (yes a) b = c.first p a ∙ sym (thrice_0 v r k e p a)
    go (no n) (yes b) =
        let g : base + p ≡ base + k + (p - k) = omega arith in
        let i : k + (p - k) ≡ p = omega arith in
        ap (at y) g ∙ c.second (p - k) (omega arith) ∙ sym (thrice_1 v r k e (p - k) (omega arith)) ∙ ap (at (thrice v ++ r)) i
    go (no n) (no m) =
        let g : base + p ≡ base + 2 * k + (p - 2 * k) = omega arith in
        let i : 2 * k + (p - 2 * k) ≡ p = omega arith in
        ap (at y) g ∙ c.third (p - 2 * k) (omega arith) ∙ sym (thrice_2 v r k e (p - 2 * k) (omega arith)) ∙ ap (at (thrice v ++ r)) i

-- ---- the header half in place is the header half

module _ (x : List ℕ) (long : header_length (count x) ≤ length x) where
  one : List ℕ
  one = copy_votes 0 16 16 0 x

  two : List ℕ
  two = copy_votes 48 (16 * count x) (16 * count x) 0 one

  one_length : length one ≡ length x
  unfolding one
  one_length = copy_votes_length 0 16 16 0 x

  two_length : length two ≡ length x
  unfolding two
  two_length = copy_votes_length 48 (16 * count x) (16 * count x) 0 one ∙ one_length

  later_same : (i : ℕ) → 48 ≤ i → at one i ≡ at x i
  unfolding one
  later_same i h = votes_others 0 16 x (omega arith) i h

  -- the directory's votes are the same after the prologue's copies were written
  pub votes_same : voted 48 (16 * count x) (copy_votes 0 16 16 0 x) ≡ directory_bytes x
  unfolding directory_bytes directory_bytes_of one
  votes_same = voted_same x one 48 (16 * count x) (λ i a h. later_same i a)

  prologue_done : Copies one 0 16 (prologue x)
  unfolding one prologue
  prologue_done = votes_copied 0 16 x (omega arith)

  directory_done : Copies two 48 (16 * count x) (directory_bytes x)
  unfolding one two
  directory_done = subst (Copies two 48 (16 * count x)) votes_same (votes_copied 48 (16 * count x) one (omega (arith, one_length)))

  in_header_lem : (p : ℕ) → Dec (p < 48) → p < header_length (count x) → at two p ≡ at (header x) p
  unfolding two header
  in_header_lem p (yes a) b =
      votes_before 48 (16 * count x) one (omega (arith, one_length)) p a
      ∙ ap (at one) (sym (zero-add p))
      ∙ copies_thrice one (prologue x) (thrice (directory_bytes x)) 0 16 (length_prologue x) prologue_done p (omega arith)
  in_header_lem p (no n) b =
      let e : p ≡ 48 + (p - 48) = omega arith in
      ap (at two) e
      ∙ copies_thrice two (directory_bytes x) [] 48 (16 * count x) (length_directory_bytes x) directory_done (p - 48) (omega arith)
      ∙ ap (λ (l : List ℕ). at l (p - 48)) (append-nil (thrice (directory_bytes x)))
      ∙ sym (thrice_3 (prologue x) (thrice (directory_bytes x)) 16 (length_prologue x) (p - 48))
      ∙ ap (at (header x)) (sym e)

  byte : (p : ℕ) → Dec (p < header_length (count x)) → at two p ≡ at (mend_header x) p
  unfolding two mend_header
  byte p (yes b) =
      in_header_lem p (dec_lt p 48) b
      ∙ sym (at_left (header x) (drop (header_length (count x)) x) (header_length (count x)) p (length_header x) b)
  byte p (no m) =
      votes_others 48 (16 * count x) one (omega (arith, one_length)) p (omega arith)
      ∙ later_same p (omega arith)
      ∙ sym (past_header x x p (omega arith))

  pub in_place : copy_votes 48 (16 * count x) (16 * count x) 0 (copy_votes 0 16 16 0 x) ≡ mend_header x
  unfolding one two mend_header
  in_place =
      ext_get_or 0 two (mend_header x) (two_length ∙ sym (under_header x x long)) (λ p h. byte p (dec_lt p (header_length (count x))))

-- ---- header first, then the words

module _ (x : List ℕ) (v : mend_verdict x ≡ fine) (b : Bytes x) where
  Z : List ℕ
  Z = mend_header x

  copies : (p : ℕ) → p < header_length (count x) → at Z p ≡ at (header x) p
  unfolding Z mend_header
  copies p h = at_left (header x) (drop (header_length (count x)) x) (header_length (count x)) p (length_header x) h

  rest : (p : ℕ) → header_length (count x) ≤ p → at Z p ≡ at x p
  unfolding Z mend_header
  rest p h = past_header x x p h

  pub header_keeps : SameHeader (mend_header x) x
  unfolding Z
  header_keeps = copied x Z copies

  pub header_size : length (mend_header x) ≡ length x
  unfolding mend_header
  header_size = under_header x x (accepted x v).long

  pub header_bytes_lem : Bytes (mend_header x)
  unfolding mend_header
  header_bytes_lem = bytes_append (header x) (drop (header_length (count x)) x) (bytes_header x b) (bytes_drop (header_length (count x)) x b)

  -- the verdicts and the examined words are those of x
  pub header_verdict_lem : mend_verdict (mend_header x) ≡ fine
  header_verdict_lem = same_verdict (mend_header x) x header_size header_keeps ∙ v

  pub header_codewords : codewords (mend_header x) ≡ codewords x
  header_codewords = same_codewords (mend_header x) x header_size header_keeps

  -- and so are the words and check bytes themselves
  pub header_word : (q c : ℕ) → Among q c (codewords x) → word_at (mend_header x) q ≡ word_at x q
  unfolding Z
  header_word q c m = read_ext 8 Z x (8 * q) (8 * q) (λ j h. let g = (past x v q c m).0 in rest (8 * q + j) (omega arith))

  pub header_check : (q c : ℕ) → Among q c (codewords x) → at (mend_header x) c ≡ at x c
  unfolding Z
  header_check q c m = rest c (past x v q c m).1

  pub header_then_words : mend_words (mend_header x) ≡ mend_bytes x
  unfolding mend_words Z
  header_then_words =
      let A = apart x v in
      ap (λ (ps : List Codeword). fix_all ps Z) header_codewords
      ∙ one_result x (fix_all (codewords x) Z) (mend_bytes x)
      (record {
        size = all_length (length x) Z header_bytes_lem header_size A;
        bytes = all_bytes (length x) Z header_bytes_lem header_size A;
        copies = λ p h. all_other (length x) Z header_bytes_lem header_size A p
            (λ q c m e. let g = (past x v q c m).0 in omega arith) (λ q c m e. let g = (past x v q c m).1 in omega arith) ∙ copies p h;
        words = λ q c m. (all_fixed (length x) Z header_bytes_lem header_size A q c m).0 ∙ ap₂ fixed_word (header_word q c m) (header_check q c m);
        checks = λ q c m. (all_fixed (length x) Z header_bytes_lem header_size A q c m).1 ∙ ap₂ fixed_check (header_word q c m) (header_check q c m);
        others = λ p o. all_other (length x) Z header_bytes_lem header_size A p o.no_word o.no_check ∙ rest p o.past;
      })
      (meets_rule x v b)
