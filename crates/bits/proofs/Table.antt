-- A rule of a table, from one test that is computed over the whole of it. Assumes nothing.
use mathlib.Core.Path.{◌≡◌}
use mathlib.Core.Bool.{Bool, true, false, ◌&&◌}
use mathlib.Core.List.{List, [], ◌∷◌}
use Prim.Native.Nat.{ℕ, zero, suc, ◌+◌, ◌<◌}
use native.Mathlib.Nat.{le_of_suc-le-suc, not-suc-le-zero, add-zero, add-suc, suc-add}
use lib.Dec.{T}
use lib.ListN.{length, get_or}
use mathlib.Core.Path.{subst, sym, ◌∙◌}

-- the test holds of each place, counted from i on, and the number that stands there
unfoldable pub every : (ℕ → ℕ → Bool) → ℕ → List ℕ → Bool
every p i [] = true
every p i (x ∷ xs) = p i x && every p (suc i) xs

first : (a b : Bool) → T (a && b) → T a
first true b h = tt
first false b h = h

second : (a b : Bool) → T (a && b) → T b
second true b h = h
second false b h = absurd h

from : (p : ℕ → ℕ → Bool) (i : ℕ) (xs : List ℕ) → T (every p i xs) → (k : ℕ) → k < length xs → T (p (i + k) (get_or xs k 0))
unfolding every
from p i [] h k l = absurd (not-suc-le-zero l)
from p i (x ∷ xs) h zero l = subst (λ (n : ℕ). T (p n x)) (sym (add-zero i)) (first (p i x) (every p (suc i) xs) h)
from p i (x ∷ xs) h (suc k) l =
    subst (λ (n : ℕ). T (p n (get_or xs k 0))) (suc-add i k ∙ sym (add-suc i k))
    (from p (suc i) xs (second (p i x) (every p (suc i) xs) h) k (le_of_suc-le-suc l))

pub entry : (p : ℕ → ℕ → Bool) (xs : List ℕ) → T (every p 0 xs) → (k : ℕ) → k < length xs → T (p k (get_or xs k 0))
entry p xs h k l = subst (λ (n : ℕ). T (p n (get_or xs k 0))) (zeroed k) (from p 0 xs h k l)
  where
    zeroed : (n : ℕ) → 0 + n ≡ n
    zeroed n = native.Mathlib.Nat.zero-add n
