-- A chain of refusals that comes out fine, taken apart and put together, and tests that say no. Assumes nothing.
use mathlib.Core.Path.{◌≡◌, ap, ◌∙◌}
use mathlib.Core.Bool.{Bool, true, false, ◌&&◌, ◌||◌}
use mathlib.Core.Bool as bool
use Prim.Native.Nat.{ℕ}
use native.Mathlib.Omega.{arith}
use Rattle.model.specs.Refusals.{Verdict, fine, ◌then◌, refuse_if}
use Rattle.model.proofs.ParseLaw.{then_first, then_rest, not_refused}
pub use Rattle.model.proofs.CopiesLaw.{or_left, or_right}

pub true_false : true ≡ false → ⊥
true_false e = let z : ◌≡◌ {A = ℕ} 1 0 = cc in omega arith

pub passed_both : (u v : Verdict) → (u then v) ≡ fine → (u ≡ fine) × (v ≡ fine)
passed_both u v e = (then_first u v e, then_rest u v e)

pub passed : (t : Bool) (n d : ℕ) (v : Verdict) → (refuse_if t n d then v) ≡ fine → (t ≡ false) × (v ≡ fine)
passed t n d v e = (not_refused t n d (then_first (refuse_if t n d) v e), then_rest (refuse_if t n d) v e)

pub passes : (t : Bool) (n d : ℕ) (v : Verdict) → t ≡ false → v ≡ fine → (refuse_if t n d then v) ≡ fine
passes t n d v e g = rw e g

pub or_none : (a b : Bool) → a ≡ false → b ≡ false → a || b ≡ false
or_none a b e g = rw (e, g)

pub or_true : (a b : Bool) → b ≡ true → a || b ≡ true
or_true a b e = ap (λ (t : Bool). a || t) e ∙ bool.or-true a

pub and_false : (a b : Bool) → b ≡ false → a && b ≡ false
and_false a b e = ap (λ (t : Bool). a && t) e ∙ bool.and-false a
