-- The header half, byte by byte: what is stored is what changed. Assumes nothing.
use mathlib.Core.Path.{◌≡◌, refl, sym, ap, ap₂, ◌∙◌}
use mathlib.Core.Bool.{Bool, true, false, cond}
use mathlib.Core.List.{List, [], ◌∷◌, ◌++◌}
use mathlib.Core.Logic.{◌⊎◌, inl, inr}
use Prim.Native.Nat.{ℕ, zero, suc, ◌+◌, ◌-◌, ◌*◌, ◌≤◌, ◌<◌}
use native.Mathlib.Nat.{add-zero, zero-add}
use native.Mathlib.Decide.{ℕ_discrete, dec_lt}
use native.Mathlib.Omega.{arith}
use borrow.Author.Tests.{eq-eqb}
use lib.Dec.{eqb}
use lib.ListN.{length, take, drop, set, length-set, take-append-drop}
use lib.Seq.{get_or-set_other, length-take-le}
use Rattle.model.specs.Bytes.{at}
use Rattle.model.specs.Layout.{maj3, count, header_length, header}
use Rattle.model.specs.Mend.{changed}
use Rattle.model.proofs.LayoutLaw.{length_header}
use Rattle.lemmas.specs.Steps.{mend_header, copy_vote, copy_votes}
use Rattle.lemmas.proofs.StoredLaw.{changed_nil, changed_short, changed_cons, changed_none, changed_append, changed_over}
use Rattle.lemmas.proofs.HeaderHalf.{copy_vote_length, copy_votes_length, at_other, votes_others, votes_before, in_place}

-- ---- one byte

pub at_most_one : (t : Bool) → cond t 0 1 ≤ 1
at_most_one true = omega arith
at_most_one false = omega arith

pub changed_most : (x y : List ℕ) → changed x y ≤ length x
changed_most [] y = omega (arith, changed_nil y)
changed_most (b ∷ x) [] = omega (arith, changed_short b x)
changed_most (b ∷ x) (v ∷ y) = omega (arith, changed_cons b v x y, changed_most x y, at_most_one (eqb b v))

set_one : (x : List ℕ) (p v : ℕ) → p < length x → changed x (set x p v) ≡ cond (eqb (at x p) v) 0 1
set_one [] p v h = absurd (omega arith)
set_one (b ∷ x) zero v h = changed_cons b v x x ∙ ap (λ (n : ℕ). cond (eqb b v) 0 1 + n) (changed_none x) ∙ add-zero (cond (eqb b v) 0 1)
set_one (b ∷ x) (suc p) v h =
    changed_cons b b x (set x p v) ∙ ap (λ (t : Bool). cond t 0 1 + changed x (set x p v)) (eq-eqb b b refl) ∙ zero-add (changed x (set x p v)) ∙ set_one x p v (omega arith)

-- a byte that was not touched before
changed_set : (x y : List ℕ) (p v : ℕ) → length y ≡ length x → p < length x → at y p ≡ at x p
    → changed x (set y p v) ≡ changed x y + cond (eqb (at y p) v) 0 1
changed_set x y p v e l s =
    changed_over x y (set y p v) e (length-set y p v ∙ e) (λ i. which i (ℕ_discrete i p))
    ∙ ap (λ (n : ℕ). changed x y + n) (set_one y p v (omega arith))
  where
    which : (i : ℕ) → Dec (i ≡ p) → (at y i ≡ at x i) ⊎ (at y i ≡ at (set y p v) i)
    which i (yes d) = inl (ap (at y) d ∙ s ∙ ap (at x) (sym d))
    which i (no n) = inr (sym (get_or-set_other y p i v 0 n))

-- ---- the vote on byte j, put into its three places in turn

module _ (base k j : ℕ) (h : j < k) (x : List ℕ) (l : base + 3 * k ≤ length x) where
  three : (v : ℕ) → changed x (set (set (set x (base + j) v) (base + k + j) v) (base + 2 * k + j) v) ≡
      cond (eqb (at x (base + j)) v) 0 1 + cond (eqb (at (set x (base + j) v) (base + k + j)) v) 0 1
      + cond (eqb (at (set (set x (base + j) v) (base + k + j) v) (base + 2 * k + j)) v) 0 1
  three v =
      let x₁ : List ℕ = set x (base + j) v in
      let x₂ : List ℕ = set x₁ (base + k + j) v in
      let l₁ : length x₁ ≡ length x = length-set x (base + j) v in
      let l₂ : length x₂ ≡ length x = length-set x₁ (base + k + j) v ∙ l₁ in
      changed_set x x₂ (base + 2 * k + j) v l₂ (omega arith)
      (get_or-set_other x₁ (base + k + j) (base + 2 * k + j) v 0 (λ g. omega arith) ∙ get_or-set_other x (base + j) (base + 2 * k + j) v 0 (λ g. omega arith))
      ∙ ap (λ (n : ℕ). n + cond (eqb (at x₂ (base + 2 * k + j)) v) 0 1)
      (changed_set x x₁ (base + k + j) v l₁ (omega arith) (get_or-set_other x (base + j) (base + k + j) v 0 (λ g. omega arith))
      ∙ ap (λ (n : ℕ). n + cond (eqb (at x₁ (base + k + j)) v) 0 1) (set_one x (base + j) v (omega arith)))

  module _ (v n₁ n₂ n₃ : ℕ) (y₁ y₂ y₃ : List ℕ) (e₁ : y₁ ≡ set x (base + j) v) (e₂ : y₂ ≡ set y₁ (base + k + j) v) (e₃ : y₃ ≡ set y₂ (base + 2 * k + j) v) where
    all_three : y₃ ≡ set (set (set x (base + j) v) (base + k + j) v) (base + 2 * k + j) v
    all_three = e₃ ∙ ap (λ (z : List ℕ). set z (base + 2 * k + j) v) (e₂ ∙ ap (λ (z : List ℕ). set z (base + k + j) v) e₁)

    pub settled : v ≡ maj3 (at x (base + j)) (at x (base + k + j)) (at x (base + 2 * k + j)) → y₃ ≡ copy_vote base k j x
    unfolding copy_vote
    settled e = all_three ∙ ap (λ (u : ℕ). set (set (set x (base + j) u) (base + k + j) u) (base + 2 * k + j) u) e

    pub settled_count : n₁ ≡ cond (eqb (at x (base + j)) v) 0 1 → n₂ ≡ cond (eqb (at y₁ (base + k + j)) v) 0 1
        → n₃ ≡ cond (eqb (at y₂ (base + 2 * k + j)) v) 0 1 → n₁ + n₂ + n₃ ≡ changed x y₃
    settled_count f₁ f₂ f₃ =
        let g₂ = f₂ ∙ ap (λ (z : List ℕ). cond (eqb (at z (base + k + j)) v) 0 1) e₁ in
        let g₃ = f₃ ∙ ap (λ (z : List ℕ). cond (eqb (at z (base + 2 * k + j)) v) 0 1) (e₂ ∙ ap (λ (z : List ℕ). set z (base + k + j) v) e₁) in
        ap₂ (λ (a b : ℕ). a + b) (ap₂ (λ (a b : ℕ). a + b) f₁ g₂) g₃ ∙ sym (three v) ∙ ap (changed x) (sym all_three)

-- ---- the bytes from j on are still as they were in x

abbrev pub Untouched : ℕ → ℕ → ℕ → List ℕ → List ℕ → Type 0
Untouched base k j x y =
    (i : ℕ) → j ≤ i → i < k → (at y (base + i) ≡ at x (base + i)) × (at y (base + k + i) ≡ at x (base + k + i)) × (at y (base + 2 * k + i) ≡ at x (base + 2 * k + i))

module _ (base k j : ℕ) (h : j < k) (x y : List ℕ) (l : base + 3 * k ≤ length x) (e : length y ≡ length x) (u : Untouched base k j x y) where
  long : base + 3 * k ≤ length y
  long = omega arith

  pub changed_next : changed x (copy_vote base k j y) ≡ changed x y + changed y (copy_vote base k j y)
  changed_next =
      changed_over x y (copy_vote base k j y) e (copy_vote_length base k j y ∙ e)
      (λ p. which p (ℕ_discrete p (base + j)) (ℕ_discrete p (base + k + j)) (ℕ_discrete p (base + 2 * k + j)))
    where
      which : (p : ℕ) → Dec (p ≡ base + j) → Dec (p ≡ base + k + j) → Dec (p ≡ base + 2 * k + j) → (at y p ≡ at x p) ⊎ (at y p ≡ at (copy_vote base k j y) p)
      which p (yes d) b c = inl (ap (at y) d ∙ (u j (omega arith) h).0 ∙ ap (at x) (sym d))
      which p (no n) (yes d) c = inl (ap (at y) d ∙ (u j (omega arith) h).1 ∙ ap (at x) (sym d))
      which p (no n) (no m) (yes d) = inl (ap (at y) d ∙ (u j (omega arith) h).2 ∙ ap (at x) (sym d))
      which p (no n) (no m) (no o) = inr (sym (at_other base k j h y long p n m o))

  pub untouched_next : Untouched base k (j + 1) x (copy_vote base k j y)
  untouched_next i a b = (
    at_other base k j h y long (base + i) (λ g. omega arith) (λ g. omega arith) (λ g. omega arith) ∙ (u i (omega arith) b).0,
    at_other base k j h y long (base + k + i) (λ g. omega arith) (λ g. omega arith) (λ g. omega arith) ∙ (u i (omega arith) b).1,
    at_other base k j h y long (base + 2 * k + i) (λ g. omega arith) (λ g. omega arith) (λ g. omega arith) ∙ (u i (omega arith) b).2,
  )

pub votes_next : (base k j : ℕ) (x : List ℕ) → j < k → copy_votes base k (k - j) j x ≡ copy_votes base k (k - (j + 1)) (j + 1) (copy_vote base k j x)
unfolding copy_votes
votes_next base k j x h =
    let e : k - j ≡ suc (k - (j + 1)) = omega arith in
    let s : suc j ≡ j + 1 = omega arith in
    ap (λ (m : ℕ). copy_votes base k m j x) e ∙ ap (λ (i : ℕ). copy_votes base k (k - (j + 1)) i (copy_vote base k j x)) s

pub votes_done : (base k j : ℕ) (x : List ℕ) → k ≤ j → copy_votes base k (k - j) j x ≡ x
unfolding copy_votes
votes_done base k j x h = let e : k - j ≡ 0 = omega arith in rw e

-- ---- prologue, then directory

module _ (x : List ℕ) (long : header_length (count x) ≤ length x) where
  one : List ℕ
  one = copy_votes 0 16 16 0 x

  size : length one ≡ length x
  unfolding one
  size = copy_votes_length 0 16 16 0 x

  pub header_changed : changed x (mend_header x)
      ≡ changed x (copy_votes 0 16 16 0 x) + changed (copy_votes 0 16 16 0 x) (copy_votes 48 (16 * count x) (16 * count x) 0 (copy_votes 0 16 16 0 x))
  unfolding one
  header_changed =
      ap (changed x) (sym (in_place x long))
      ∙ changed_over x one (copy_votes 48 (16 * count x) (16 * count x) 0 one) size (copy_votes_length 48 (16 * count x) (16 * count x) 0 one ∙ size)
      (λ p. which p (dec_lt p 48))
    where
      which : (p : ℕ) → Dec (p < 48) → (at one p ≡ at x p) ⊎ (at one p ≡ at (copy_votes 48 (16 * count x) (16 * count x) 0 one) p)
      which p (yes a) = inr (sym (votes_before 48 (16 * count x) one (omega (arith, size)) p a))
      which p (no n) = inl (votes_others 0 16 x (omega arith) p (omega arith))

  -- all of it in the header
  pub header_part : changed x (mend_header x) ≡ changed (take (header_length (count x)) x) (header x)
  unfolding mend_header
  header_part =
      let H : ℕ = header_length (count x) in
      ap (λ (z : List ℕ). changed z (header x ++ drop H x)) (sym (take-append-drop H x))
      ∙ changed_append (take H x) (header x) (drop H x) (drop H x) (length-take-le H x long ∙ sym (length_header x))
      ∙ ap (λ (n : ℕ). changed (take H x) (header x) + n) (changed_none (drop H x))
      ∙ add-zero (changed (take H x) (header x))

  module _ (n n₁ n₂ : ℕ) (y₁ y₂ : List ℕ) (e : n ≡ count x) (e₁ : y₁ ≡ copy_votes 0 16 16 0 x) (e₂ : y₂ ≡ copy_votes 48 (16 * n) (16 * n) 0 y₁) where
    second : y₂ ≡ copy_votes 48 (16 * count x) (16 * count x) 0 (copy_votes 0 16 16 0 x)
    second = e₂ ∙ ap₂ (λ (m : ℕ) (z : List ℕ). copy_votes 48 (16 * m) (16 * m) 0 z) e e₁

    pub header_settled : y₂ ≡ mend_header x
    header_settled = second ∙ in_place x long

    pub header_stored : n₁ ≡ changed x y₁ → n₂ ≡ changed y₁ y₂ → n₁ + n₂ ≡ changed x y₂
    header_stored f₁ f₂ =
        ap₂ (λ (a b : ℕ). a + b) (f₁ ∙ ap (changed x) e₁) (f₂ ∙ ap₂ changed e₁ second)
        ∙ sym header_changed ∙ ap (changed x) (sym header_settled)
