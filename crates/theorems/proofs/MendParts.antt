-- Mend's answer taken apart, and totals over examined words. Assumes nothing.
use mathlib.Core.Path.{◌≡◌, refl, sym, ap, ap₂, ◌∙◌, subst}
use mathlib.Core.Bool.{Bool}
use mathlib.Core.List.{List, [], ◌∷◌}
use Rattle.std.specs.Prelude.{Option}
use Prim.Native.Nat.{ℕ, ◌+◌}
use native.Mathlib.Omega.{arith}
use Rattle.model.specs.Bytes.{at, word_at, Bytes}
use Rattle.model.specs.Refusals.{Verdict, fine, refuse}
use Rattle.model.specs.Parity.{Class, decode}
use Rattle.model.specs.Scan.{Codeword, Among, here, later, total, class_at, classes_at, Report, scan}
use Rattle.model.specs.Mend.{mend_verdict, MendRule, mend_bytes, changed, whole, mended, mend_as, mend}
use Rattle.lemmas.proofs.MendLaw.{meets_rule}

pub record Mends (x y : List ℕ) (r : Option Report) (k : ℕ) (t : Bool) : Type 0 where
  pub verdict : mend_verdict x ≡ fine
  pub bytes : mend_bytes x ≡ y
  pub report : scan x ≡ r
  pub stored : changed x y ≡ k
  pub is_whole : whole x ≡ t
  pub rule : MendRule x y

pub mends : (x y : List ℕ) (r : Option Report) (k : ℕ) (t : Bool) → Bytes x → mend x ≡ mended y r k t → Mends x y r k t
unfolding mend
mends x y r k t b h = go (mend_verdict x) refl h
  where
    go : (v : Verdict) → mend_verdict x ≡ v → mend_as v x (mend_bytes x) (scan x) ≡ mended y r k t → Mends x y r k t
    go fine e g =
        let a : mend_bytes x ≡ y = cc in
        let s : scan x ≡ r = cc in
        let c : changed x (mend_bytes x) ≡ k = cc in
        let d : whole x ≡ t = cc in
        record {
          verdict = e;
          bytes = a;
          report = s;
          stored = ap (changed x) (sym a) ∙ c;
          is_whole = d;
          rule = subst (MendRule x) a (meets_rule x e b);
        }
    go (refuse n d) e g = let z : ◌≡◌ {A = ℕ} 0 1 = cc in absurd (omega arith)

-- ---- totals

-- a total of 0 is 0 at each
pub none_total : (f : Class → ℕ) (x : List ℕ) (ps : List Codeword) → total f (classes_at x ps) ≡ 0 → (q c : ℕ) → Among q c ps → f (decode (word_at x q) (at x c)) ≡ 0
unfolding total classes_at class_at
none_total f x [] e q c m = elim m [ ]
none_total f x (p ∷ ps) e q c (here g h) =
    ap₂ (λ (w d : ℕ). f (decode (word_at x w) (at x d))) (sym g) (sym h) ∙ first
  where
    first : f (decode (word_at x p.word) (at x p.check)) ≡ 0
    first = omega arith
none_total f x (p ∷ ps) e q c (later m) = none_total f x ps (omega arith) q c m

-- totals are equal where they are at each
pub total_ext : (f g : Class → ℕ) (x y : List ℕ) (ps : List Codeword)
    → ((q c : ℕ) → Among q c ps → f (decode (word_at x q) (at x c)) ≡ g (decode (word_at y q) (at y c))) → total f (classes_at x ps) ≡ total g (classes_at y ps)
unfolding total classes_at class_at
total_ext f g x y [] h = refl
total_ext f g x y (p ∷ ps) h =
    ap₂ (λ (m n : ℕ). m + n) (h p.word p.check (here refl refl)) (total_ext f g x y ps (λ q c m. h q c (later m)))

pub total_zero : (f : Class → ℕ) (x : List ℕ) (ps : List Codeword) → ((q c : ℕ) → Among q c ps → f (decode (word_at x q) (at x c)) ≡ 0) → total f (classes_at x ps) ≡ 0
unfolding total classes_at class_at
total_zero f x [] h = refl
total_zero f x (p ∷ ps) h = ap₂ (λ (m n : ℕ). m + n) (h p.word p.check (here refl refl)) (total_zero f x ps (λ q c m. h q c (later m)))
