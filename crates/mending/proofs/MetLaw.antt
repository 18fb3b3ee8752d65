-- What mend counts as it meets the words: where they lie apart, what a scan counts. Assumes nothing.
use mathlib.Core.Path.{◌≡◌, refl, sym, ap, ◌∙◌, subst}
use mathlib.Core.Bool.{true}
use mathlib.Core.List.{List, [], ◌∷◌, ◌++◌}
use Prim.Native.Nat.{ℕ}
use lib.ListN.{length}
use Rattle.model.specs.Bytes.{Bytes}
use Rattle.model.specs.Parity.{Class}
use Rattle.model.specs.Scan.{Codeword, class_at, classes_at}
use Rattle.model.specs.Mend.{stored_codeword, fix_at, fix_all}
use Rattle.lemmas.proofs.CodewordLaw.{classes_ext}
use Rattle.lemmas.proofs.Fold.{Inside, AllApart, nil, cons, fix_bytes, fix_length, fix_free}
use Rattle.correcting.specs.Correct.{correct_at, correct_all, met}

-- ---- correcting with the check bytes is mend's fixing

pub all_fixes : (ps : List Codeword) (x : List ℕ) → correct_all true ps x ≡ fix_all ps x
unfolding correct_all correct_at fix_all fix_at
all_fixes [] x = refl
all_fixes (p ∷ ps) x = all_fixes ps (stored_codeword (class_at x p) p x)

-- ---- run after run

pub met_append : (x : List ℕ) (ps qs : List Codeword) → met true x (ps ++ qs) ≡ met true x ps ++ met true (fix_all ps x) qs
unfolding met correct_at fix_all fix_at
met_append x [] qs = refl
met_append x (p ∷ ps) qs = ap (λ (ks : List Class). class_at x p ∷ ks) (met_append (stored_codeword (class_at x p) p x) ps qs)

-- words laid apart are met as they stood
pub met_apart : (len : ℕ) (x : List ℕ) {ps : List Codeword} → Bytes x → length x ≡ len → AllApart len ps → met true x ps ≡ classes_at x ps
unfolding met correct_at classes_at fix_at
met_apart len x b e nil = refl
met_apart len x b e (cons {p = p} {ps = ps} s f r) =
    let t : Inside (length x) p = subst (λ (n : ℕ). Inside n p) (sym e) s in
    ap (λ (ks : List Class). class_at x p ∷ ks)
    (met_apart len (fix_at p x) (fix_bytes p x b t) (fix_length p x b t ∙ e) r
    ∙ classes_ext x (fix_at p x) ps (λ q c m. fix_free p x b t q c (f q c m)))
