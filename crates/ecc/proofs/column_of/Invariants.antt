use mathlib.Core.Path.{◌≡◌}
use Prim.Native.Nat.{ℕ, ◌-◌, ◌≤◌, ◌<◌}
use lib.ListN.{get_or}
use Rattle.model.specs.Parity.{columns}
use Rattle.ecc.proofs.column_of.Given as goal

-- `ecc::column_of` meets its contract. The invariant: as long as nothing is found, no column before `i` is `s`; then `left` is what its
-- place leaves of 72. No other column is `s`, so nothing is added to that.
pub record Sought (s left i : ℕ) : Type 0 where
  pub small : left ≤ 72
  pub none_yet : left ≡ 0 → (k : ℕ) → k < i → get_or columns k 0 ≡ s → ⊥
  pub one : 0 < left → (get_or columns (72 - left) 0 ≡ s) × (72 - left < i)

abbrev pub invariant-loop-i : goal.invariant-loop-i
invariant-loop-i l = Sought l.syndrome l.left l.i
