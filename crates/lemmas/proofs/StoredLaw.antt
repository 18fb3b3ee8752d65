-- The stored count: the header bytes that differ from the vote, and one for each corrected word. Assumes nothing.
use mathlib.Core.Path.{◌≡◌, refl, sym, ap, ap₂, ◌∙◌, subst}
use mathlib.Core.Bool.{Bool, cond, true, false}
use mathlib.Core.List.{List, [], ◌∷◌, ◌++◌}
use mathlib.Core.Logic.{◌⊎◌, inl, inr}
use Prim.Native.Nat.{ℕ, zero, suc, ◌+◌, ◌-◌, ◌*◌, ◌/◌, ◌%◌, ◌^◌, ◌≤◌, ◌<◌}
use native.Mathlib.Nat.{add-zero, zero-add, not-suc-le-zero, le_of_suc-le-suc, suc_inj, suc-ne-zero, mod-lt}
use native.Mathlib.Decide.{ℕ_discrete, dec_lt}
use native.Mathlib.Omega.{arith}
use borrow.Author.Tests.{eq-eqb, ne_eqb, lt-ltb, le-ltb}
use lib.Dec.{eqb, lit<}
use lib.Pow.{pow_pos}
use lib.Bits.{bit_xor, xor_comm, xor_self}
use lib.ListN.{length, take, drop, take-append-drop}
use lib.Seq.{ext_get_or, get_or-take, length-take-le}
use Rattle.bits.proofs.LinearLaw.{xor_undo}
use Rattle.model.specs.Bytes.{at, word_at, Bytes}
use Rattle.model.specs.Refusals.{fine}
use Rattle.model.specs.Layout.{count, header_length, header}
use Rattle.model.specs.Parity.{Class, clean, flipped, uncorrectable, check_of, decode, flip_word, flip_check, word_after, check_after, fixed_word, fixed_check}
use Rattle.model.specs.Scan.{Codeword, codewords, is_corrected, total, class_at, classes_at}
use Rattle.model.specs.Mend.{mend_verdict, fix_at, fix_all, stored_codeword, changed, mend_bytes, Change, changes_from, changes}
use Rattle.model.proofs.BytesLaw.{read_ext, read_inj}
use Rattle.model.proofs.LayoutLaw.{length_header}
use Rattle.lemmas.proofs.BytesLow.{byte_apart}
use Rattle.lemmas.proofs.CodeLaw.{Flip, corrected}
use Rattle.lemmas.proofs.CodewordLaw.{classes_ext}
use Rattle.lemmas.proofs.Fold.{Inside, AllApart, fix_other, fix_free, fix_bytes, fix_length, fix_word, fix_check, all_length, all_other}
use Rattle.lemmas.proofs.Apart.{accepted, apart, past}

-- ---- counting changes

abbrev one : ℕ → ℕ → ℕ → List Change
one p b v = record { position = p; old = b; new = v } ∷ []

-- their number does not depend on where positions are counted from
shifted : (p q : ℕ) (x y : List ℕ) → length (changes_from p x y) ≡ length (changes_from q x y)
unfolding changes_from
shifted p q [] y = refl
shifted p q (b ∷ x) [] = refl
shifted p q (b ∷ x) (v ∷ y) = go (eqb b v) (shifted (suc p) (suc q) x y)
  where
    go : (t : Bool) → length (changes_from (suc p) x y) ≡ length (changes_from (suc q) x y)
        → length (cond t [] (one p b v) ++ changes_from (suc p) x y) ≡ length (cond t [] (one q b v) ++ changes_from (suc q) x y)
    go true e = e
    go false e = ap suc e

pub changed_nil : (y : List ℕ) → changed [] y ≡ 0
unfolding changed changes changes_from
changed_nil y = refl

pub changed_short : (b : ℕ) (x : List ℕ) → changed (b ∷ x) [] ≡ 0
unfolding changed changes changes_from
changed_short b x = refl

pub changed_cons : (b v : ℕ) (x y : List ℕ) → changed (b ∷ x) (v ∷ y) ≡ cond (eqb b v) 0 1 + changed x y
unfolding changed changes changes_from
changed_cons b v x y = go (eqb b v) (shifted 1 0 x y)
  where
    go : (t : Bool) → length (changes_from 1 x y) ≡ length (changes_from 0 x y)
        → length (cond t [] (one 0 b v) ++ changes_from 1 x y) ≡ cond t 0 1 + length (changes_from 0 x y)
    go true e = e ∙ sym (zero-add (length (changes_from 0 x y)))
    go false e = ap suc e ∙ omega arith

pub changed_none : (x : List ℕ) → changed x x ≡ 0
changed_none [] = changed_nil []
changed_none (b ∷ x) = rw (changed_cons b b x x, eq-eqb b b refl, changed_none x)

pub changed_append : (a a' b b' : List ℕ) → length a ≡ length a' → changed (a ++ b) (a' ++ b') ≡ changed a a' + changed b b'
changed_append [] [] b b' e = sym (ap (λ (n : ℕ). n + changed b b') (changed_nil []) ∙ zero-add (changed b b'))
changed_append [] (y ∷ a') b b' e = absurd (suc-ne-zero (length a') (sym e))
changed_append (x ∷ a) [] b b' e = absurd (suc-ne-zero (length a) e)
changed_append (x ∷ a) (y ∷ a') b b' e =
    omega (arith, changed_cons x y (a ++ b) (a' ++ b'), changed_cons x y a a', changed_append a a' b b' (suc_inj e))

-- over y, where each byte of y is x's or z's
pub changed_over : (x y z : List ℕ) → length y ≡ length x → length z ≡ length x → ((p : ℕ) → (at y p ≡ at x p) ⊎ (at y p ≡ at z p))
    → changed x z ≡ changed x y + changed y z
changed_over [] [] z e f g = omega (arith, changed_nil z, changed_nil [])
changed_over [] (b ∷ y) z e f g = absurd (suc-ne-zero (length y) e)
changed_over (a ∷ x) [] z e f g = absurd (suc-ne-zero (length x) (sym e))
changed_over (a ∷ x) (b ∷ y) [] e f g = absurd (suc-ne-zero (length x) (sym f))
changed_over (a ∷ x) (b ∷ y) (c ∷ z) e f g =
    let ih = changed_over x y z (suc_inj e) (suc_inj f) (λ p. g (suc p)) in
    let h : cond (eqb a c) 0 1 ≡ cond (eqb a b) 0 1 + cond (eqb b c) 0 1 = head (g 0) in
    omega (arith, changed_cons a c x z, changed_cons a b x y, changed_cons b c y z)
  where
    head : (b ≡ a) ⊎ (b ≡ c) → cond (eqb a c) 0 1 ≡ cond (eqb a b) 0 1 + cond (eqb b c) 0 1
    head (inl d) = rw (d, eq-eqb a a refl) (sym (zero-add (cond (eqb a c) 0 1)))
    head (inr d) = rw (d, eq-eqb c c refl) (sym (add-zero (cond (eqb a c) 0 1)))

same_list : (x y : List ℕ) → length y ≡ length x → ((p : ℕ) → at y p ≡ at x p) → changed x y ≡ 0
same_list x y e f = ap (changed x) (ext_get_or 0 y x e (λ p h. f p)) ∙ changed_none x

-- one byte differs
changed_one : (x y : List ℕ) (p : ℕ) → length y ≡ length x → p < length x → (at y p ≡ at x p → ⊥) → ((i : ℕ) → (i ≡ p → ⊥) → at y i ≡ at x i) → changed x y ≡ 1
changed_one [] y p e h n f = absurd (not-suc-le-zero h)
changed_one (a ∷ x) [] p e h n f = absurd (suc-ne-zero (length x) (sym e))
changed_one (a ∷ x) (b ∷ y) zero e h n f =
    rw (changed_cons a b x y, ne_eqb a b (λ g. n (sym g)), same_list x y (suc_inj e) (λ i. f (suc i) (λ g. suc-ne-zero i g)))
changed_one (a ∷ x) (b ∷ y) (suc p) e h n f =
    rw (changed_cons a b x y, eq-eqb a b (sym (f 0 (λ g. suc-ne-zero p (sym g)))), changed_one x y p (suc_inj e) (le_of_suc-le-suc h) n (λ i g. f (suc i) (λ d. g (suc_inj d))))

-- ---- one word

no_flip : (v k : ℕ) → bit_xor v (2 ^ k) ≡ v → ⊥
no_flip v k e =
    let z : 2 ^ k ≡ 0 = sym (xor_undo (2 ^ k) v) ∙ ap (λ (n : ℕ). bit_xor n v) (xor_comm (2 ^ k) v ∙ e) ∙ xor_self v in
    omega (arith, pow_pos k)

module _ (p : Codeword) (x : List ℕ) (b : Bytes x) (s : Inside (length x) p) where
  Y : List ℕ
  Y = fix_at p x

  W : ℕ
  W = word_at x p.word

  C : ℕ
  C = at x p.check

  in_word_lem : (v k : ℕ) → k < 64 → W ≡ bit_xor v (2 ^ k) → word_at Y p.word ≡ v → at Y p.check ≡ C → changed x Y ≡ 1
  unfolding Y W C
  in_word_lem v k l e f g =
      changed_one x Y (8 * p.word + k / 8) (fix_length p x b s) (omega (arith, s.word)) differs same
    where
      flip : word_at Y p.word ≡ bit_xor W (2 ^ k)
      flip = f ∙ sym (ap (λ (n : ℕ). bit_xor n (2 ^ k)) e ∙ xor_undo v (2 ^ k))

      apart_bytes : (j : ℕ) → j < 8 → (j ≡ k / 8 → ⊥) → at Y (8 * p.word + j) ≡ at x (8 * p.word + j)
      apart_bytes = byte_apart 8 k x Y (8 * p.word) b (fix_bytes p x b s) flip

      differs : at Y (8 * p.word + k / 8) ≡ at x (8 * p.word + k / 8) → ⊥
      differs d =
          let w : word_at Y p.word ≡ W = read_ext 8 Y x (8 * p.word) (8 * p.word) (λ j h. every j h (ℕ_discrete j (k / 8))) in
          no_flip W k (sym flip ∙ w)
        where
          every : (j : ℕ) → j < 8 → Dec (j ≡ k / 8) → at Y (8 * p.word + j) ≡ at x (8 * p.word + j)
          every j h (yes i) = subst (λ (n : ℕ). at Y (8 * p.word + n) ≡ at x (8 * p.word + n)) (sym i) d
          every j h (no n) = apart_bytes j h n

      same : (i : ℕ) → (i ≡ 8 * p.word + k / 8 → ⊥) → at Y i ≡ at x i
      same i n = go (ℕ_discrete (i / 8) p.word) (ℕ_discrete i p.check)
        where
          go : Dec (i / 8 ≡ p.word) → Dec (i ≡ p.check) → at Y i ≡ at x i
          go (yes d) r =
              let m : 8 * p.word + i % 8 ≡ i = omega arith in
              subst (λ (u : ℕ). at Y u ≡ at x u) m (apart_bytes (i % 8) (mod-lt i (lit< tt)) (λ h. n (omega arith)))
          go (no d) (yes r) = subst (λ (u : ℕ). at Y u ≡ at x u) (sym r) g
          go (no d) (no r) = fix_other p x b s i d r

  in_check : (v : ℕ) → word_at Y p.word ≡ W → (at Y p.check ≡ C → ⊥) → changed x Y ≡ 1
  unfolding Y W C
  in_check v f g = changed_one x Y p.check (fix_length p x b s) s.check g (λ i n. go i n (ℕ_discrete (i / 8) p.word))
    where
      go : (i : ℕ) → (i ≡ p.check → ⊥) → Dec (i / 8 ≡ p.word) → at Y i ≡ at x i
      go i n (yes d) =
          let m : 8 * p.word + i % 8 ≡ i = omega arith in
          subst (λ (u : ℕ). at Y u ≡ at x u) m (read_inj 8 Y x (8 * p.word) (fix_bytes p x b s) b f (i % 8) (mod-lt i (lit< tt)))
      go i n (no d) = fix_other p x b s i d n

  one_corrected : (v k : ℕ) → word_at Y p.word ≡ v → at Y p.check ≡ check_of v → Flip W C v k → changed x Y ≡ 1
  unfolding Y W C flip_word flip_check
  one_corrected v k fw fc = go (dec_lt k 64)
    where
      go : Dec (k < 64) → Flip W C v k → changed x Y ≡ 1
      go (yes l) f =
          let w : W ≡ bit_xor v (2 ^ k) = f.word ∙ ap (λ (t : Bool). cond t (bit_xor v (2 ^ k)) v) (lt-ltb k 64 l) in
          let c : C ≡ check_of v = f.check ∙ ap (λ (t : Bool). cond t (check_of v) (bit_xor (check_of v) (2 ^ (k - 64)))) (lt-ltb k 64 l) in
          in_word_lem v k l w fw (fc ∙ sym c)
      go (no n) f =
          let w : W ≡ v = f.word ∙ ap (λ (t : Bool). cond t (bit_xor v (2 ^ k)) v) (le-ltb k 64 (omega arith)) in
          let c : C ≡ bit_xor (check_of v) (2 ^ (k - 64)) = f.check ∙ ap (λ (t : Bool). cond t (check_of v) (bit_xor (check_of v) (2 ^ (k - 64)))) (le-ltb k 64 (omega arith)) in
          in_check v (fw ∙ sym w) (λ e. no_flip (check_of v) (k - 64) (sym c ∙ sym e ∙ fc))

  pub changed_word : changed x (fix_at p x) ≡ is_corrected (class_at x p)
  unfolding Y W C fix_at class_at fixed_word fixed_check
  changed_word = go (decode W C) refl
    where
      go : (r : Class) → decode W C ≡ r → changed x (stored_codeword (decode W C) p x) ≡ is_corrected r
      go clean d = ap (λ (r : Class). changed x (stored_codeword r p x)) d ∙ changed_none x
      go (flipped k) d =
          one_corrected (flip_word k W) k (fix_word p x b s ∙ ap (λ (r : Class). word_after r W) d) (fix_check p x b s ∙ ap (λ (r : Class). check_after r W C) d)
          (corrected W C k d)
      go uncorrectable d = ap (λ (r : Class). changed x (stored_codeword r p x)) d ∙ changed_none x

-- ---- all words

pub changed_words : (len : ℕ) (x : List ℕ) {ps : List Codeword} → Bytes x → length x ≡ len → AllApart len ps → changed x (fix_all ps x) ≡ total is_corrected (classes_at x ps)
unfolding fix_all total classes_at
changed_words len x b e AllApart.nil = changed_none x
changed_words len x b e (AllApart.cons {p = p} {ps = ps} s f r) =
    let t : Inside (length x) p = subst (λ (n : ℕ). Inside n p) (sym e) s in
    let y : List ℕ = fix_at p x in
    let by : Bytes y = fix_bytes p x b t in
    let ly : length y ≡ len = fix_length p x b t ∙ e in
    let z : List ℕ = fix_all ps y in
    changed_over x y z (fix_length p x b t) (all_length len y by ly r ∙ sym e) (λ i. which t y by ly i (ℕ_discrete (i / 8) p.word) (ℕ_discrete i p.check) (fix_other p x b t i))
    ∙ ap₂ (λ (m n : ℕ). m + n) (changed_word p x b t)
    (changed_words len y by ly r ∙ ap (total is_corrected) (classes_ext x y ps (λ q c m. fix_free p x b t q c (f q c m))))
  where
    which : Inside (length x) p → (y : List ℕ) → Bytes y → length y ≡ len → (i : ℕ) → Dec (i / 8 ≡ p.word) → Dec (i ≡ p.check)
        → ((i / 8 ≡ p.word → ⊥) → (i ≡ p.check → ⊥) → at y i ≡ at x i) → (at y i ≡ at x i) ⊎ (at y i ≡ at (fix_all ps y) i)
    which t y by ly i (yes d) u g =
        inr (sym (all_other len y by ly r i (λ q c m h. (f q c m).words (sym d ∙ sym h)) (λ q c m h. (f q c m).there_here (ap (λ (n : ℕ). n / 8) h ∙ d))))
    which t y by ly i (no n) (yes u) g =
        inr (sym (all_other len y by ly r i (λ q c m h. (f q c m).here_there (ap (λ (n : ℕ). n / 8) (sym u) ∙ sym h)) (λ q c m h. (f q c m).checks (sym u ∙ sym h))))
    which t y by ly i (no n) (no u) g = inl (g n u)

-- ---- the stored count

module _ (x : List ℕ) (v : mend_verdict x ≡ fine) (b : Bytes x) where
  H : ℕ
  H = header_length (count x)

  F : List ℕ
  F = fix_all (codewords x) x

  size : length F ≡ length x
  unfolding F
  size = all_length (length x) x b refl (apart x v)

  long : H ≤ length x
  unfolding H
  long = (accepted x v).long

  -- the words' repair keeps the header
  kept : take H F ≡ take H x
  unfolding H F
  kept =
      ext_get_or 0 (take H F) (take H x) (length-take-le H F (omega (arith, size, long)) ∙ sym (length-take-le H x long))
      (λ p h. let l : p < H = omega (arith, length-take-le H F (omega (arith, size, long))) in
      get_or-take H F p 0 l
      ∙ all_other (length x) x b refl (apart x v) p
      (λ q c m e. let g = (past x v q c m).0 in omega arith) (λ q c m e. let g = (past x v q c m).1 in omega arith)
      ∙ sym (get_or-take H x p 0 l))

  -- so what it changes lies behind
  behind : changed (drop H x) (drop H F) ≡ total is_corrected (classes_at x (codewords x))
  unfolding F
  behind =
      sym (zero-add (changed (drop H x) (drop H F)))
      ∙ ap (λ (n : ℕ). n + changed (drop H x) (drop H F)) (sym (ap (changed (take H x)) kept ∙ changed_none (take H x)))
      ∙ sym (changed_append (take H x) (take H F) (drop H x) (drop H F) (sym (ap length kept)))
      ∙ ap₂ changed (take-append-drop H x) (take-append-drop H F)
      ∙ changed_words (length x) x b refl (apart x v)

  pub stored_count : changed x (mend_bytes x) ≡ changed (take (header_length (count x)) x) (header x) + total is_corrected (classes_at x (codewords x))
  unfolding mend_bytes H F
  stored_count =
      ap (λ (l : List ℕ). changed l (header x ++ drop H F)) (sym (take-append-drop H x))
      ∙ changed_append (take H x) (header x) (drop H x) (drop H F) (length-take-le H x long ∙ sym (length_header x))
      ∙ ap (λ (n : ℕ). changed (take H x) (header x) + n) behind
