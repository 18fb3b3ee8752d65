-- A text without a mark, and one that is cut at its first mark. Assumes nothing.
use mathlib.Core.Path.{◌≡◌, refl, ap, ◌∙◌}
use mathlib.Core.List.{List, [], ◌∷◌, ◌++◌}
use mathlib.Core.Logic.{◌≢◌}
use Prim.Native.Nat.{ℕ, suc, ◌<◌}
use native.Mathlib.Omega.{arith}
use borrow.Author.Tests.{ne_eqb}
use denote.Ref.{Bor}
use lib.ListN.{length, get_or}
use Rattle.std.proofs.Common.{Option, Some, None}
use Rattle.std.specs.Option.{MatchOption}
use Rattle.model.specs.Programs.{decimal}
use Rattle.sentences.specs.Templates.{filled}

abbrev Unmarked : List ℕ → Type 0
Unmarked x = (i : ℕ) → i < length x → get_or x i 0 ≢ 35

unmarked_tail : (x : ℕ) (xs : List ℕ) → Unmarked (x ∷ xs) → Unmarked xs
unmarked_tail x xs h = λ i l. h (suc i) (omega arith)

filled_none : (n : ℕ) (x : List ℕ) → Unmarked x → filled n x ≡ x
filled_none n [] h = refl
filled_none n (x ∷ xs) h = simp (ne_eqb x 35 (h 0 (omega arith))) (ap (◌∷◌ x) (filled_none n xs (unmarked_tail x xs h)))

filled_at : (n : ℕ) (x y : List ℕ) → Unmarked x → filled n (x ++ (35 ∷ y)) ≡ x ++ (decimal n ++ y)
filled_at n [] y h = refl
filled_at n (x ∷ xs) y h = simp (ne_eqb x 35 (h 0 (omega arith))) (ap (◌∷◌ x) (filled_at n xs y (unmarked_tail x xs h)))

pub filled_around : (n : ℕ) (t : List ℕ) (r : Option (Bor (List ℕ) × Bor (List ℕ)))
    → MatchOption r (Unmarked t) (λ x. (t ≡ x.0.now ++ (35 ∷ x.1.now)) × Unmarked x.0.now)
    → MatchOption r (filled n t ≡ t) (λ x. filled n t ≡ x.0.now ++ (decimal n ++ x.1.now))
filled_around n t None h = filled_none n t h
filled_around n t (Some x) h = ap (filled n) h.0 ∙ filled_at n x.0.now x.1.now h.1
