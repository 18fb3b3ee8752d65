-- The examined words repaired one after the other: what each step and the whole fold leave, where the words lie apart. Assumes nothing.
use mathlib.Core.Path.{◌≡◌, refl, sym, ap, ap₂, ◌∙◌, subst}
use mathlib.Core.List.{List, [], ◌∷◌, ◌++◌, append_assoc}
use Prim.Native.Nat.{ℕ, ◌+◌, ◌-◌, ◌*◌, ◌/◌, ◌%◌, ◌^◌, ◌≤◌, ◌<◌}
use native.Mathlib.Nat.{mod-lt}
use native.Mathlib.Decide.{dec_lt, ℕ_discrete}
use native.Mathlib.Omega.{arith}
use lib.Dec.{lit<}
use lib.ListN.{length, take, drop, set, length-set}
use lib.Seq.{sets, sets-eq, length-sets, length-take-le, get_or-take, get_or-drop, get_or-set_same, get_or-set_other}
use Rattle.model.specs.Bytes.{at, word_at, le_bytes, Bytes}
use Rattle.model.specs.Parity.{Class, clean, flipped, uncorrectable, check_of, flip_word, decode, word_after, check_after, fixed_word, fixed_check}
use Rattle.model.specs.Scan.{Codeword, Among, here, later, class_at}
use Rattle.model.specs.Mend.{stored_codeword, fix_at, fix_all}
use Rattle.model.proofs.BytesLaw.{at_left, at_right, read_ext, read_le_bytes, read_lt, length_le_bytes, le_bytes_small}
use Rattle.lemmas.proofs.CodeLaw.{check_low, word_after_low}

-- ---- a run of bytes put at i

module _ (l : List ℕ) (i : ℕ) (vs : List ℕ) (h : i + length vs ≤ length l) where
  lt : length (take i l) ≡ i
  lt = length-take-le i l (omega arith)

  eq : sets l i vs ≡ take i l ++ (vs ++ drop (i + length vs) l)
  eq = sets-eq vs l i h ∙ append_assoc (take i l) vs (drop (i + length vs) l)

  pub at_sets_in : (j : ℕ) → j < length vs → at (sets l i vs) (i + j) ≡ at vs j
  at_sets_in j g =
      ap (λ (x : List ℕ). at x (i + j)) eq
      ∙ at_right (take i l) (vs ++ drop (i + length vs) l) i j lt
      ∙ at_left vs (drop (i + length vs) l) (length vs) j refl g

  pub at_sets_before : (j : ℕ) → j < i → at (sets l i vs) j ≡ at l j
  at_sets_before j g =
      ap (λ (x : List ℕ). at x j) eq
      ∙ at_left (take i l) (vs ++ drop (i + length vs) l) i j lt g
      ∙ get_or-take i l j 0 g

  pub at_sets_after : (j : ℕ) → i + length vs ≤ j → at (sets l i vs) j ≡ at l j
  at_sets_after j g =
      let e : j ≡ i + (length vs + (j - i - length vs)) = omega arith in
      let f : i + length vs + (j - i - length vs) ≡ j = omega arith in
      ap₂ (λ (x : List ℕ) (m : ℕ). at x m) eq e
      ∙ at_right (take i l) (vs ++ drop (i + length vs) l) i (length vs + (j - i - length vs)) lt
      ∙ at_right vs (drop (i + length vs) l) (length vs) (j - i - length vs) refl
      ∙ get_or-drop (i + length vs) l (j - i - length vs) 0
      ∙ ap (at l) f

-- ---- word q of a list made v

abbrev pub put_word_lem : List ℕ → ℕ → ℕ → List ℕ
put_word_lem l q v = sets l (8 * q) (le_bytes 8 v)

module _ (l : List ℕ) (q v : ℕ) (h : 8 * q + 8 ≤ length l) where
  room : 8 * q + length (le_bytes 8 v) ≤ length l
  room = omega (arith, length_le_bytes 8 v)

  pub word_length_lem : length (put_word_lem l q v) ≡ length l
  word_length_lem = length-sets l (8 * q) (le_bytes 8 v)

  pub word_in : (j : ℕ) → j < 8 → at (put_word_lem l q v) (8 * q + j) ≡ at (le_bytes 8 v) j
  word_in j g = at_sets_in l (8 * q) (le_bytes 8 v) room j (omega (arith, length_le_bytes 8 v))

  pub word_out : (i : ℕ) → (i / 8 ≡ q → ⊥) → at (put_word_lem l q v) i ≡ at l i
  word_out i n = go (dec_lt i (8 * q))
    where
      go : Dec (i < 8 * q) → at (put_word_lem l q v) i ≡ at l i
      go (yes g) = at_sets_before l (8 * q) (le_bytes 8 v) room i g
      go (no g) = at_sets_after l (8 * q) (le_bytes 8 v) room i (omega (arith, length_le_bytes 8 v))

  pub word_is : v < 256 ^ 8 → word_at (put_word_lem l q v) q ≡ v
  word_is g =
      read_ext 8 (put_word_lem l q v) (le_bytes 8 v ++ []) (8 * q) 0
      (λ j k. word_in j k ∙ sym (at_left (le_bytes 8 v) [] 8 j (length_le_bytes 8 v) k) ∙ ap (at (le_bytes 8 v ++ [])) (omega arith))
      ∙ read_le_bytes 8 v [] g

  pub word_bytes : Bytes l → Bytes (put_word_lem l q v)
  word_bytes b = record { small = λ i. pick i (ℕ_discrete (i / 8) q) }
    where
      pick : (i : ℕ) → Dec (i / 8 ≡ q) → at (put_word_lem l q v) i < 256
      pick i (yes e) =
          let m : i ≡ 8 * q + i % 8 = omega arith in
          subst (λ (u : ℕ). u < 256) (sym (ap (at (put_word_lem l q v)) m ∙ word_in (i % 8) (mod-lt i (lit< tt)))) (le_bytes_small 8 v (i % 8))
      pick i (no n) = subst (λ (u : ℕ). u < 256) (sym (word_out i n)) (b.small i)

-- ---- one word and its check byte

pub record Inside (len : ℕ) (p : Codeword) : Type 0 where
  pub word : 8 * p.word + 8 ≤ len
  pub check : p.check < len
  pub self : p.check / 8 ≡ p.word → ⊥

-- codeword p and the one of word q and check byte c: neither lies in the other
pub record Free (p : Codeword) (q c : ℕ) : Type 0 where
  pub words : p.word ≡ q → ⊥
  pub checks : p.check ≡ c → ⊥
  pub here_there : p.check / 8 ≡ q → ⊥
  pub there_here : c / 8 ≡ p.word → ⊥

-- v and c put in
module _ (p : Codeword) (x : List ℕ) (v c : ℕ) (s : Inside (length x) p) where
  checked : List ℕ
  checked = set x p.check c

  fits : 8 * p.word + 8 ≤ length checked
  unfolding checked
  fits = omega (arith, s.word, length-set x p.check c)

  put : List ℕ
  put = put_word_lem checked p.word v

  put_length : length put ≡ length x
  unfolding put checked
  put_length = word_length_lem checked p.word v fits ∙ length-set x p.check c

  put_word : v < 256 ^ 8 → word_at put p.word ≡ v
  unfolding put
  put_word h = word_is checked p.word v fits h

  put_check : at put p.check ≡ c
  unfolding put checked
  put_check = word_out checked p.word v fits p.check s.self ∙ get_or-set_same x p.check c 0 s.check

  put_other : (i : ℕ) → (i / 8 ≡ p.word → ⊥) → (i ≡ p.check → ⊥) → at put i ≡ at x i
  unfolding put checked
  put_other i n m = word_out checked p.word v fits i n ∙ get_or-set_other x p.check i c 0 m

  put_bytes : Bytes x → c < 256 → Bytes put
  unfolding put checked
  put_bytes b l = word_bytes checked p.word v fits (record { small = λ i. pick i (ℕ_discrete i p.check) })
    where
      pick : (i : ℕ) → Dec (i ≡ p.check) → at (set x p.check c) i < 256
      pick i (yes e) = subst (λ (u : ℕ). u < 256) (sym (ap (at (set x p.check c)) e ∙ get_or-set_same x p.check c 0 s.check)) l
      pick i (no m) = subst (λ (u : ℕ). u < 256) (sym (get_or-set_other x p.check i c 0 m)) (b.small i)

module _ (p : Codeword) (x : List ℕ) (b : Bytes x) (s : Inside (length x) p) where
  pub record Fixed (r : Class) (y : List ℕ) : Type 0 where
    pub size : length y ≡ length x
    pub bytes : Bytes y
    pub word : word_at y p.word ≡ word_after r (word_at x p.word)
    pub check : at y p.check ≡ check_after r (word_at x p.word) (at x p.check)
    pub other : (i : ℕ) → (i / 8 ≡ p.word → ⊥) → (i ≡ p.check → ⊥) → at y i ≡ at x i

  fixed : (r : Class) → word_after r (word_at x p.word) < 2 ^ 64 → Fixed r (stored_codeword r p x)
  unfolding put checked
  fixed clean h = record { size = refl; bytes = b; word = refl; check = refl; other = λ i n m. refl }
  fixed (flipped i) h =
      let v = flip_word i (word_at x p.word) in
      record {
        size = put_length p x v (check_of v) s;
        bytes = put_bytes p x v (check_of v) s b (check_low v);
        word = put_word p x v (check_of v) s h;
        check = put_check p x v (check_of v) s;
        other = put_other p x v (check_of v) s;
      }
  fixed uncorrectable h = record { size = refl; bytes = b; word = refl; check = refl; other = λ i n m. refl }

  pub fix : Fixed (decode (word_at x p.word) (at x p.check)) (fix_at p x)
  unfolding fix_at class_at
  fix =
      fixed (decode (word_at x p.word) (at x p.check))
      (word_after_low (decode (word_at x p.word) (at x p.check)) (word_at x p.word) (read_lt 8 x (8 * p.word) b))

  pub fix_length : length (fix_at p x) ≡ length x
  fix_length = fix.size

  pub fix_bytes : Bytes (fix_at p x)
  fix_bytes = fix.bytes

  pub fix_word : word_at (fix_at p x) p.word ≡ fixed_word (word_at x p.word) (at x p.check)
  unfolding fixed_word
  fix_word = fix.word

  pub fix_check : at (fix_at p x) p.check ≡ fixed_check (word_at x p.word) (at x p.check)
  unfolding fixed_check
  fix_check = fix.check

  pub fix_other : (i : ℕ) → (i / 8 ≡ p.word → ⊥) → (i ≡ p.check → ⊥) → at (fix_at p x) i ≡ at x i
  fix_other = fix.other

  -- a codeword that is free of p keeps its word and its check byte
  pub fix_free : (q c : ℕ) → Free p q c → (word_at (fix_at p x) q ≡ word_at x q) × (at (fix_at p x) c ≡ at x c)
  fix_free q c f = (
    read_ext 8 (fix_at p x) x (8 * q) (8 * q) (λ j l.
        fix_other (8 * q + j) (λ k. f.words (sym k ∙ omega arith)) (λ k. f.here_there (ap (λ (m : ℕ). m / 8) (sym k) ∙ omega arith))),
    fix_other c f.there_here (λ k. f.checks (sym k)),
  )

-- ---- all of them

pub data AllApart (len : ℕ) : List Codeword → Type 0 where
  nil : AllApart len []
  cons : {p : Codeword} {ps : List Codeword} → Inside len p → ((q c : ℕ) → Among q c ps → Free p q c) → AllApart len ps → AllApart len (p ∷ ps)

module _ (len : ℕ) where
  pub all_length : (x : List ℕ) {ps : List Codeword} → Bytes x → length x ≡ len → AllApart len ps → length (fix_all ps x) ≡ len
  unfolding fix_all
  all_length x b e nil = e
  all_length x b e (cons {p = p} s f r) =
      let t : Inside (length x) p = subst (λ (n : ℕ). Inside n p) (sym e) s in
      all_length (fix_at p x) (fix_bytes p x b t) (fix_length p x b t ∙ e) r

  pub all_bytes : (x : List ℕ) {ps : List Codeword} → Bytes x → length x ≡ len → AllApart len ps → Bytes (fix_all ps x)
  unfolding fix_all
  all_bytes x b e nil = b
  all_bytes x b e (cons {p = p} s f r) =
      let t : Inside (length x) p = subst (λ (n : ℕ). Inside n p) (sym e) s in
      all_bytes (fix_at p x) (fix_bytes p x b t) (fix_length p x b t ∙ e) r

  pub all_other : (x : List ℕ) {ps : List Codeword} → Bytes x → length x ≡ len → AllApart len ps → (i : ℕ)
      → ((q c : ℕ) → Among q c ps → q ≡ i / 8 → ⊥) → ((q c : ℕ) → Among q c ps → c ≡ i → ⊥) → at (fix_all ps x) i ≡ at x i
  unfolding fix_all
  all_other x b e nil i n m = refl
  all_other x b e (cons {p = p} s f r) i n m =
      let t : Inside (length x) p = subst (λ (k : ℕ). Inside k p) (sym e) s in
      all_other (fix_at p x) (fix_bytes p x b t) (fix_length p x b t ∙ e) r i (λ q c h. n q c (later h)) (λ q c h. m q c (later h))
      ∙ fix_other p x b t i (λ g. n p.word p.check (here refl refl) (sym g)) (λ g. m p.word p.check (here refl refl) (sym g))

  pub all_fixed : (x : List ℕ) {ps : List Codeword} → Bytes x → length x ≡ len → AllApart len ps → (q c : ℕ) → Among q c ps
      → (word_at (fix_all ps x) q ≡ fixed_word (word_at x q) (at x c)) × (at (fix_all ps x) c ≡ fixed_check (word_at x q) (at x c))
  unfolding fix_all
  all_fixed x b e nil q c m = elim m [ ]
  all_fixed x b e (cons {p = p} {ps = ps} s f r) q c (here g h) =
      let t : Inside (length x) p = subst (λ (k : ℕ). Inside k p) (sym e) s in
      let x' : List ℕ = fix_at p x in
      let b' : Bytes x' = fix_bytes p x b t in
      let e' : length x' ≡ len = fix_length p x b t ∙ e in
      let w : word_at (fix_all ps x') p.word ≡ word_at x' p.word =
      read_ext 8 (fix_all ps x') x' (8 * p.word) (8 * p.word) (λ j l.
      all_other x' b' e' r (8 * p.word + j)
      (λ q c i k. (f q c i).words (sym (k ∙ omega arith)))
      (λ q c i k. (f q c i).there_here (ap (λ (m : ℕ). m / 8) k ∙ omega arith))) in
      let v : at (fix_all ps x') p.check ≡ at x' p.check =
      all_other x' b' e' r p.check (λ q c i k. (f q c i).here_there (sym k)) (λ q c i k. (f q c i).checks (sym k)) in
      subst (λ (m : ℕ). (word_at (fix_all ps x') m ≡ fixed_word (word_at x m) (at x c)) × (at (fix_all ps x') c ≡ fixed_check (word_at x m) (at x c))) g
      (subst (λ (m : ℕ). (word_at (fix_all ps x') p.word ≡ fixed_word (word_at x p.word) (at x m)) × (at (fix_all ps x') m ≡ fixed_check (word_at x p.word) (at x m))) h
      (w ∙ fix_word p x b t, v ∙ fix_check p x b t))
  all_fixed x b e (cons {p = p} {ps = ps} s f r) q c (later i) =
      let t : Inside (length x) p = subst (λ (k : ℕ). Inside k p) (sym e) s in
      let x' : List ℕ = fix_at p x in
      let b' : Bytes x' = fix_bytes p x b t in
      let e' : length x' ≡ len = fix_length p x b t ∙ e in
      let k = fix_free p x b t q c (f q c i) in
      let ih = all_fixed x' b' e' r q c i in
      (ih.0 ∙ ap₂ fixed_word k.0 k.1, ih.1 ∙ ap₂ fixed_check k.0 k.1)

pub fix_all_append : (xs ys : List Codeword) (x : List ℕ) → fix_all (xs ++ ys) x ≡ fix_all ys (fix_all xs x)
unfolding fix_all
fix_all_append [] ys x = refl
fix_all_append (p ∷ xs) ys x = fix_all_append xs ys (fix_at p x)

pub apart_right : {len : ℕ} (xs ys : List Codeword) → AllApart len (xs ++ ys) → AllApart len ys
apart_right [] ys a = a
apart_right (p ∷ xs) ys (cons s f r) = apart_right xs ys r

-- no check byte lies in a word
pub check_out : {len : ℕ} {ps : List Codeword} → AllApart len ps → (q c q' c' : ℕ) → Among q c ps → Among q' c' ps → q' ≡ c / 8 → ⊥
check_out nil q c q' c' m m' h = elim m [ ]
check_out (cons s f r) q c q' c' (here e g) (here e' g') h = s.self (ap (λ (n : ℕ). n / 8) g ∙ sym h ∙ sym e')
check_out (cons s f r) q c q' c' (here e g) (later m) h = (f q' c' m).here_there (ap (λ (n : ℕ). n / 8) g ∙ sym h)
check_out (cons s f r) q c q' c' (later m) (here e' g') h = (f q c m).there_here (sym h ∙ sym e')
check_out (cons s f r) q c q' c' (later m) (later m') h = check_out r q c q' c' m m' h
