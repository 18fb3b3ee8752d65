-- Lines put one behind the other, and a text that is put from the front on. Assumes nothing.
use mathlib.Core.Path.{◌≡◌, refl, ap, ◌∙◌, subst}
use mathlib.Core.List.{List, [], ◌∷◌, ◌++◌, append_assoc}
use Prim.Native.Nat.{ℕ}
use native.Mathlib.Omega.{arith}
use lib.ListN.{length}
use lib.Seq.{sets}
use Rattle.model.specs.Programs.{text, line_feed, lines}
use Rattle.put.specs.Put.{Put}
use Rattle.put.proofs.PutLaw.{put_two}

-- a line and its line feed
pub put_last_line : (o : List ℕ) (p : ℕ) (l : List ℕ) {o₁ o₂ : List ℕ} {p₁ p₂ : ℕ} → Put o p l p₁ o₁ → Put o₁ p₁ line_feed p₂ o₂ → Put o p (lines (l ∷ [])) p₂ o₂
unfolding lines text
put_last_line o p l g h = put_two o p l line_feed g h

-- a text from the front on
pub text_put : (o a b : List ℕ) {r : ℕ} {o' : List ℕ} → Put o 0 a r o' → a ≡ b → (r ≡ length b) × (o' ≡ sets o 0 b)
text_put o a b {r} h e =
    let n : r ≡ length a = omega (arith, h.behind) in
    (n ∙ ap length e, h.stored ∙ ap (sets o 0) e)

-- a line with its line feed, and the lines behind it
pub put_more : (o : List ℕ) (p : ℕ) (l : List ℕ) (ls : List (List ℕ)) {o₁ o₂ : List ℕ} {p₁ p₂ : ℕ} → Put o p (lines (l ∷ [])) p₁ o₁ → Put o₁ p₁ (lines ls) p₂ o₂ → Put o p (lines (l ∷ ls)) p₂ o₂
unfolding lines text
put_more o p l ls {o₂ = o₂} {p₂ = p₂} g h = subst (λ (x : List ℕ). Put o p x p₂ o₂) (append_assoc l line_feed (lines ls)) (put_two o p (l ++ line_feed) (lines ls) g h)

-- nothing is put
pub put_none : (o : List ℕ) (p : ℕ) → Put o p [] p o
put_none o p = record { behind = omega arith; stored = refl; long = refl }
