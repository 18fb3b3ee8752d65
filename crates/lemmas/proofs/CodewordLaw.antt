-- The list of codewords: which are in it, and where they lie. Assumes nothing.
use mathlib.Core.Path.{◌≡◌, refl, sym, ap₂, ◌∙◌}
use mathlib.Core.List.{List, [], ◌∷◌, ◌++◌}
use mathlib.Core.Logic.{◌⊎◌, inl, inr}
use Prim.Native.Nat.{ℕ, zero, suc, ◌+◌, ◌/◌, ◌<◌, zero-le, suc-le-suc}
use native.Mathlib.Nat.{add-zero, add-suc, suc-add, le_of_suc-le-suc, not-suc-le-zero}
use native.Mathlib.Decide.{ℕ_discrete}
use Rattle.model.specs.Bytes.{at, word_at}
use Rattle.model.specs.Parity.{Class, decode}
use Rattle.model.specs.Scan.{Codeword, codewords_from, Among, here, later, class_at, classes_at}

pub among_append : {q c : ℕ} (x y : List Codeword) → Among q c (x ++ y) → Among q c x ⊎ Among q c y
among_append [] y m = inr m
among_append (p ∷ x) y (here e f) = inl (here e f)
among_append (p ∷ x) y (later m) = go (among_append x y m)
  where
    go : {q c : ℕ} → Among q c x ⊎ Among q c y → Among q c (p ∷ x) ⊎ Among q c y
    go (inl i) = inl (later i)
    go (inr i) = inr i

pub among_left : (xs ys : List Codeword) {q c : ℕ} → Among q c xs → Among q c (xs ++ ys)
among_left [] ys m = elim m [ ]
among_left (p ∷ xs) ys (here e f) = here e f
among_left (p ∷ xs) ys (later m) = later (among_left xs ys m)

pub among_right : (xs ys : List Codeword) {q c : ℕ} → Among q c ys → Among q c (xs ++ ys)
among_right [] ys m = m
among_right (p ∷ xs) ys m = later (among_right xs ys m)

-- the k-th of n words from a on, with check bytes from c on
pub record Step (n a c q d : ℕ) : Type 0 where
  pub k : ℕ
  pub inside : k < n
  pub word : q ≡ a + k
  pub check : d ≡ c + k

pub among_from : (n a c : ℕ) {q d : ℕ} → Among q d (codewords_from n a c) → Step n a c q d
unfolding codewords_from
among_from zero a c m = elim m [ ]
among_from (suc n) a c (here e f) = record { k = 0; inside = suc-le-suc zero-le; word = sym e ∙ sym (add-zero a); check = sym f ∙ sym (add-zero c) }
among_from (suc n) a c (later m) =
    let s = among_from n (suc a) (suc c) m in
    record {
      k = suc s.k;
      inside = suc-le-suc s.inside;
      word = s.word ∙ suc-add a s.k ∙ sym (add-suc a s.k);
      check = s.check ∙ suc-add c s.k ∙ sym (add-suc c s.k);
    }

pub from_among : (n a c k : ℕ) → k < n → Among (a + k) (c + k) (codewords_from n a c)
unfolding codewords_from
from_among zero a c k h = absurd (not-suc-le-zero h)
from_among (suc n) a c zero h = here (sym (add-zero a)) (sym (add-zero c))
from_among (suc n) a c (suc k) h =
    rw (add-suc a k ∙ sym (suc-add a k), add-suc c k ∙ sym (suc-add c k)) (later (from_among n (suc a) (suc c) k (le_of_suc-le-suc h)))

-- ---- their classes

pub classes_ext : (x y : List ℕ) (ps : List Codeword) → ((q c : ℕ) → Among q c ps → (word_at y q ≡ word_at x q) × (at y c ≡ at x c)) → classes_at y ps ≡ classes_at x ps
unfolding classes_at class_at
classes_ext x y [] g = refl
classes_ext x y (p ∷ ps) g =
    let h = g p.word p.check (here refl refl) in
    ap₂ (λ (a : Class) (b : List Class). a ∷ b) (ap₂ decode h.0 h.1) (classes_ext x y ps (λ q c m. g q c (later m)))

-- ---- where a position lies

pub data Where (p : ℕ) (ps : List Codeword) : Type 0 where
  in_word : (q c : ℕ) → Among q c ps → q ≡ p / 8 → Where p ps
  is_check : (q c : ℕ) → Among q c ps → c ≡ p → Where p ps
  neither : ((q c : ℕ) → Among q c ps → q ≡ p / 8 → ⊥) → ((q c : ℕ) → Among q c ps → c ≡ p → ⊥) → Where p ps

none_among : (q c : ℕ) → Among q c [] → ⊥
none_among q c = elim [ ]

pub classify : (ps : List Codeword) (p : ℕ) → Where p ps
classify [] p = neither (λ q c m e. none_among q c m) (λ q c m e. none_among q c m)
classify (r ∷ ps) p = first (ℕ_discrete r.word (p / 8)) (ℕ_discrete r.check p) (classify ps p)
  where
    words : ((r.word ≡ p / 8) → ⊥) → ((q c : ℕ) → Among q c ps → q ≡ p / 8 → ⊥) → (q c : ℕ) → Among q c (r ∷ ps) → q ≡ p / 8 → ⊥
    words n f q c (here e g) h = n (e ∙ h)
    words n f q c (later m) h = f q c m h

    checks : ((r.check ≡ p) → ⊥) → ((q c : ℕ) → Among q c ps → c ≡ p → ⊥) → (q c : ℕ) → Among q c (r ∷ ps) → c ≡ p → ⊥
    checks n f q c (here e g) h = n (g ∙ h)
    checks n f q c (later m) h = f q c m h

    first : Dec (r.word ≡ p / 8) → Dec (r.check ≡ p) → Where p ps → Where p (r ∷ ps)
    first (yes e) d w = in_word r.word r.check (here refl refl) e
    first (no n) (yes e) w = is_check r.word r.check (here refl refl) e
    first (no n) (no m) (in_word q c i e) = in_word q c (later i) e
    first (no n) (no m) (is_check q c i e) = is_check q c (later i) e
    first (no n) (no m) (neither f g) = neither (words n f) (checks m g)
