-- Only one list is x mended, the procedure makes it for every image that mend accepts, and what is mended stays as it is. Assumes nothing.
use mathlib.Core.Path.{◌≡◌, refl, sym, ap, ap₂, ◌∙◌, subst}
use mathlib.Core.List.{List, ◌++◌}
use Prim.Native.Nat.{ℕ, ◌+◌, ◌-◌, ◌*◌, ◌/◌, ◌%◌, ◌≤◌, ◌<◌}
use native.Mathlib.Nat.{mod-lt}
use native.Mathlib.Decide.{dec_lt}
use native.Mathlib.Omega.{arith}
use lib.Dec.{lit<}
use lib.ListN.{length, drop, length-append, length-drop}
use lib.Seq.{ext_get_or, get_or-drop}
use Rattle.model.specs.Bytes.{at, word_at, Bytes}
use Rattle.model.specs.Refusals.{fine}
use Rattle.model.specs.Layout.{count, header_length, header}
use Rattle.model.specs.Parity.{check_of, fixed_word, fixed_check}
use Rattle.model.specs.Scan.{Among, codewords}
use Rattle.model.specs.Mend.{mend_verdict, Elsewhere, MendRule, fix_all, mend_bytes}
use Rattle.model.proofs.BytesLaw.{at_left, at_right, read_ext, read_inj}
use Rattle.model.proofs.LayoutLaw.{length_header}
use Rattle.lemmas.proofs.HeaderLaw.{SameHeader, same_header, same_codewords, copied}
use Rattle.lemmas.proofs.BytesLow.{bytes_append, bytes_drop, bytes_header}
use Rattle.lemmas.proofs.CodeLaw.{fixed_again}
use Rattle.lemmas.proofs.CodewordLaw.{Where, in_word, is_check, neither, classify}
use Rattle.lemmas.proofs.Fold.{AllApart, all_length, all_bytes, all_other, all_fixed}
use Rattle.lemmas.proofs.Apart.{accepted, apart, past}

-- ---- only one result is x mended

-- a byte of equal words
pub same_in_word : (y z : List ℕ) (q p : ℕ) → Bytes y → Bytes z → word_at y q ≡ word_at z q → q ≡ p / 8 → at y p ≡ at z p
same_in_word y z q p by bz e h =
    let l : at y (8 * q + p % 8) ≡ at z (8 * q + p % 8) = read_inj 8 y z (8 * q) by bz e (p % 8) (mod-lt p (lit< tt)) in
    let m : 8 * q + p % 8 ≡ p = omega arith in
    subst (λ (n : ℕ). at y n ≡ at z n) m l

pub one_result : (x y z : List ℕ) → MendRule x y → MendRule x z → y ≡ z
one_result x y z my mz = ext_get_or 0 y z (my.size ∙ sym mz.size) (λ p h. pick p (dec_lt p (header_length (count x))))
  where
    rest : (p : ℕ) → header_length (count x) ≤ p → Where p (codewords x) → at y p ≡ at z p
    rest p l (in_word q c m e) = same_in_word y z q p my.bytes mz.bytes (my.words q c m ∙ sym (mz.words q c m)) e
    rest p l (is_check q c m e) = subst (λ (n : ℕ). at y n ≡ at z n) e (my.checks q c m ∙ sym (mz.checks q c m))
    rest p l (neither f g) =
        let o : Elsewhere x p = record { past = l; no_word = f; no_check = g } in
        my.others p o ∙ sym (mz.others p o)

    pick : (p : ℕ) → Dec (p < header_length (count x)) → at y p ≡ at z p
    pick p (yes h) = my.copies p h ∙ sym (mz.copies p h)
    pick p (no n) = rest p (omega arith) (classify (codewords x) p)

-- ---- a header put in front of the rest of a list

pub past_header : (x y : List ℕ) (p : ℕ) → header_length (count x) ≤ p → at (header x ++ drop (header_length (count x)) y) p ≡ at y p
past_header x y p h =
    let e : p ≡ header_length (count x) + (p - header_length (count x)) = omega arith in
    ap (at (header x ++ drop (header_length (count x)) y)) e
    ∙ at_right (header x) (drop (header_length (count x)) y) (header_length (count x)) (p - header_length (count x)) (length_header x)
    ∙ get_or-drop (header_length (count x)) y (p - header_length (count x)) 0 ∙ ap (at y) (sym e)

pub under_header : (x y : List ℕ) → header_length (count x) ≤ length y → length (header x ++ drop (header_length (count x)) y) ≡ length y
under_header x y l =
    omega (
      arith,
      length-append (header x) (drop (header_length (count x)) y),
      length_header x,
      length-drop (header_length (count x)) y,
    )

-- ---- the procedure meets the rule

pub meets_rule : (x : List ℕ) → mend_verdict x ≡ fine → Bytes x → MendRule x (mend_bytes x)
unfolding mend_bytes
meets_rule x v b =
    record {
      size = under_header x F (omega (arith, all_length (length x) x b refl A, (accepted x v).long)) ∙ all_length (length x) x b refl A;
      bytes = bytes_append (header x) (drop H F) (bytes_header x b) (bytes_drop H F (all_bytes (length x) x b refl A));
      copies = λ p h. at_left (header x) (drop H F) H p (length_header x) h;
      words = λ q c m.
          read_ext 8 (header x ++ drop H F) F (8 * q) (8 * q) (λ j l. past_header x F (8 * q + j) (omega (arith, (past x v q c m).0)))
          ∙ (all_fixed (length x) x b refl A q c m).0;
      checks = λ q c m. past_header x F c (past x v q c m).1 ∙ (all_fixed (length x) x b refl A q c m).1;
      others = λ p o. past_header x F p o.past ∙ all_other (length x) x b refl A p o.no_word o.no_check;
    }
  where
    H : ℕ
    H = header_length (count x)

    F : List ℕ
    F = fix_all (codewords x) x

    A : AllApart (length x) (codewords x)
    A = apart x v

-- ---- what is mended stays

pub settled : (x y : List ℕ) → MendRule x y → MendRule y y
settled x y m =
    let s : SameHeader y x = copied x y m.copies in
    let e : codewords y ≡ codewords x = same_codewords y x m.size s in
    record {
      size = refl;
      bytes = m.bytes;
      copies = λ p h. m.copies p (subst (λ (n : ℕ). p < header_length n) s.count≡ h) ∙ ap (λ (l : List ℕ). at l p) (sym (same_header y x s));
      words = λ q c i. let j : Among q c (codewords x) = subst (Among q c) e i in
          m.words q c j ∙ sym (fixed_again (word_at x q) (at x c)).0 ∙ ap₂ fixed_word (sym (m.words q c j)) (sym (m.checks q c j));
      checks = λ q c i. let j : Among q c (codewords x) = subst (Among q c) e i in
          m.checks q c j ∙ sym (fixed_again (word_at x q) (at x c)).1 ∙ ap₂ fixed_check (sym (m.words q c j)) (sym (m.checks q c j));
      others = λ p o. refl;
    }

-- an image in order: its header copies agree, and each examined word has its check byte
pub record InOrder (w : List ℕ) : Type 0 where
  pub bytes : Bytes w
  pub copies : (p : ℕ) → p < header_length (count w) → at w p ≡ at (header w) p
  pub checks : (q c : ℕ) → Among q c (codewords w) → at w c ≡ check_of (word_at w q)
