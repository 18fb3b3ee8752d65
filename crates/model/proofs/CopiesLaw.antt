-- Whether some copy differs from the vote, place by place. Assumes nothing.
use mathlib.Core.Path.{◌≡◌, refl, sym, ap, ◌∙◌}
use mathlib.Core.Bool.{Bool, true, false, not, ◌||◌}
use mathlib.Core.List.{List, ◌++◌}
use Prim.Native.Nat.{ℕ, ◌+◌, ◌-◌, ◌*◌, ◌≤◌, ◌<◌}
use native.Mathlib.Decide.{dec_lt}
use native.Mathlib.Omega.{arith}
use borrow.Author.Tests.{eqb-true, eqb-false, not-true, not-false}
use lib.Dec.{eqb}
use lib.ListN.{length, drop, length-drop}
use lib.Seq.{get_or-drop}
use Rattle.model.specs.Bytes.{at, thrice}
use Rattle.model.specs.Layout.{voted, differs}
use Rattle.model.proofs.BytesLaw.{at_left, at_right, length_thrice}
use Rattle.model.proofs.LayoutLaw.{length_voted, differs_at, differs_not}

-- one of three differs from v
abbrev pub off_of : ℕ → ℕ → ℕ → ℕ → Bool
off_of v a b c = not (eqb a v) || (not (eqb b v) || not (eqb c v))

-- of the copies of byte j
unfoldable pub off_at : ℕ → ℕ → List ℕ → ℕ → Bool
off_at base k x j = off_of (at (voted base k x) j) (at x (base + j)) (at x (base + k + j)) (at x (base + 2 * k + j))

same : (a v : ℕ) → not (eqb a v) ≡ false → a ≡ v
same a v e = eqb-true a v (not-false (eqb a v) e)

other : (a v : ℕ) → not (eqb a v) ≡ true → a ≡ v → ⊥
other a v e = eqb-false a v (not-true (eqb a v) e)

pub or_left : (a b : Bool) → a || b ≡ false → a ≡ false
or_left true b e = e
or_left false b e = refl

pub or_right : (a b : Bool) → a || b ≡ false → b ≡ false
or_right true b e = cc
or_right false b e = e

-- place p of three copies of a list of k bytes, by the copy that it lies in
at_thrice : (v : List ℕ) (k p : ℕ) → length v ≡ k → (P : ℕ → Type 0) → p < 3 * k
    → ((j : ℕ) → j < k → p ≡ j → P (at v j)) → ((j : ℕ) → j < k → p ≡ k + j → P (at v j)) → ((j : ℕ) → j < k → p ≡ 2 * k + j → P (at v j))
    → P (at (thrice v) p)
at_thrice v k p l P h f g q = go (dec_lt p k) (dec_lt p (2 * k))
  where
    in_second : (j : ℕ) → p ≡ k + j → at (v ++ v) j ≡ at (thrice v) p
    in_second j e = sym (ap (at (thrice v)) e ∙ at_right v (v ++ v) k j l)

    go : Dec (p < k) → Dec (p < 2 * k) → P (at (thrice v) p)
    go (yes a) b = mathlib.Core.Path.subst P (sym (at_left v (v ++ v) k p l a)) (f p a refl)
    go (no a) (yes b) =
        mathlib.Core.Path.subst P (sym (at_left v v k (p - k) l (omega arith)) ∙ in_second (p - k) (omega arith))
        (g (p - k) (omega arith) (omega arith))
    go (no a) (no b) =
        mathlib.Core.Path.subst P
        (sym (at_right v v k (p - 2 * k) l) ∙ in_second (k + (p - 2 * k)) (omega arith))
        (q (p - 2 * k) (omega arith) (omega arith))

module _ (base k : ℕ) (x : List ℕ) (fits : base + 3 * k ≤ length x) where
  v : List ℕ
  v = voted base k x

  long : length (thrice v) ≤ length (drop base x)
  unfolding v
  long = simp (length-drop, length_thrice (voted base k x) k (length_voted base k x)) (omega arith)

  -- the copies of byte j are the vote
  pub off_none : (j : ℕ) → off_at base k x j ≡ false
      → (at x (base + j) ≡ at (voted base k x) j) × (at x (base + k + j) ≡ at (voted base k x) j) × (at x (base + 2 * k + j) ≡ at (voted base k x) j)
  unfolding off_at
  off_none j e =
      let w = at (voted base k x) j in
      let a = not (eqb (at x (base + j)) w) in
      let b = not (eqb (at x (base + k + j)) w) in
      let c = not (eqb (at x (base + 2 * k + j)) w) in
      let r : b || c ≡ false = or_right a (b || c) e in
      (same (at x (base + j)) w (or_left a (b || c) e), same (at x (base + k + j)) w (or_left b c r), same (at x (base + 2 * k + j)) w (or_right b c r))

  pub differs_none : ((j : ℕ) → j < k → off_at base k x j ≡ false) → differs (thrice (voted base k x)) (drop base x) ≡ false
  unfolding v
  differs_none f =
      differs_not (thrice v) (drop base x) long
      (λ p h. at_thrice v k p (length_voted base k x) (λ n. n ≡ at (drop base x) p) (omega (arith, length_thrice v k (length_voted base k x)))
      (λ j l e. sym (off_none j (f j l)).0 ∙ place p (base + j) (omega arith))
      (λ j l e. sym (off_none j (f j l)).1 ∙ place p (base + k + j) (omega arith))
      (λ j l e. sym (off_none j (f j l)).2 ∙ place p (base + 2 * k + j) (omega arith)))
    where
      place : (p q : ℕ) → q ≡ base + p → at x q ≡ at (drop base x) p
      place p q e = ap (at x) e ∙ sym (get_or-drop base x p 0)

  -- one copy of byte j is not
  pub differs_here : (j : ℕ) → j < k → off_at base k x j ≡ true → differs (thrice (voted base k x)) (drop base x) ≡ true
  unfolding v off_at
  differs_here j h e =
      go (not (eqb (at x (base + j)) w)) (not (eqb (at x (base + k + j)) w)) (not (eqb (at x (base + 2 * k + j)) w)) refl refl refl e
    where
      w : ℕ
      w = at (voted base k x) j

      lv : length v ≡ k
      lv = length_voted base k x

      found : (p q : ℕ) → p < 3 * k → q ≡ base + p → w ≡ at (thrice v) p → (at x q ≡ w → ⊥) → differs (thrice v) (drop base x) ≡ true
      found p q l eq ew f =
          differs_at (thrice v) (drop base x) p (omega (arith, length_thrice v k lv))
          (λ d. f (ap (at x) eq ∙ sym (get_or-drop base x p 0) ∙ sym d ∙ sym ew)) long

      first : w ≡ at (thrice v) j
      first = sym (at_left v (v ++ v) k j lv h)

      second : w ≡ at (thrice v) (k + j)
      second = sym (at_right v (v ++ v) k j lv ∙ at_left v v k j lv h)

      third : w ≡ at (thrice v) (k + (k + j))
      third = sym (at_right v (v ++ v) k (k + j) lv ∙ at_right v v k j lv)

      go : (a b c : Bool) → not (eqb (at x (base + j)) w) ≡ a → not (eqb (at x (base + k + j)) w) ≡ b → not (eqb (at x (base + 2 * k + j)) w) ≡ c
          → a || (b || c) ≡ true → differs (thrice v) (drop base x) ≡ true
      go true b c ea eb ec t = found j (base + j) (omega arith) refl first (other (at x (base + j)) w ea)
      go false true c ea eb ec t = found (k + j) (base + k + j) (omega arith) (omega arith) second (other (at x (base + k + j)) w eb)
      go false false true ea eb ec t =
          found (k + (k + j)) (base + 2 * k + j) (omega arith) (omega arith) third (other (at x (base + 2 * k + j)) w ec)
      go false false false ea eb ec t = cc
