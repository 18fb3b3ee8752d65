use mathlib.Core.Path.{◌≡◌, sym, ap, ◌∙◌, subst}
use Prim.Native.Nat.{ℕ, zero, suc, ◌+◌, ◌-◌, ◌<◌}
use native.Mathlib.Omega.{arith}
use native.Mathlib.Decide.{ℕ_discrete}
use lib.Bits.{bit_or}
use lib.ListN.{get_or}
use Rattle.std.specs.Prelude.{None, Some}
use Rattle.model.specs.Parity.{columns, find}
use Rattle.model.proofs.ParityLaw.{find_column, find_none, columns_differ}
use Rattle.ecc.proofs.column_of.Invariants.{Sought}
use Rattle.ecc.proofs.column_of.Goals as goal
use Rattle.ecc.proofs.column_of.Goals.{then-table-i, else-table-i}

-- the loop's three steps, over the columns as they are
found : (s left i : ℕ) → i < 72 → get_or columns i 0 ≡ s → Sought s left i → Sought s (bit_or left (72 - i)) (i + 1)
found s zero i h e q =
    let p : 72 - (72 - i) ≡ i = omega arith in
    record { small = omega arith; none_yet = λ z. absurd (omega arith); one = λ l. (ap (λ (k : ℕ). get_or columns k 0) p ∙ e, omega arith) }
found s (suc n) i h e q =
    let o = q.one (omega arith) in
    absurd (omega (arith, o.1, columns_differ (72 - suc n) i (omega arith) h (o.0 ∙ sym e)))

passed : (s left i : ℕ) → i < 72 → (get_or columns i 0 ≡ s → ⊥) → Sought s left i → Sought s left (i + 1)
passed s left i h f q =
    record {
      small = q.small;
      none_yet = λ z k l e. earlier k l e z (ℕ_discrete k i);
      one = λ l. ((q.one l).0, omega (arith, (q.one l).1));
    }
  where
    earlier : (k : ℕ) → k < i + 1 → get_or columns k 0 ≡ s → left ≡ 0 → Dec (k ≡ i) → ⊥
    earlier k l e z (yes d) = f (ap (λ (n : ℕ). get_or columns n 0) (sym d) ∙ e)
    earlier k l e z (no n) = q.none_yet z k (omega arith) e

module _ (s left : ℕ) (q : Sought s left 72) where
  nowhere : left ≡ 0 → None ≡ find s columns
  unfolding columns
  nowhere z = sym (find_none s columns (λ k h. q.none_yet z k h))

  there : (left ≡ 0 → ⊥) → Some (72 - left) ≡ find s columns
  unfolding columns
  there n = let o = q.one (omega arith) in sym (ap (λ (k : ℕ). find k columns) (sym o.0) ∙ find_column (72 - left) o.1)

pub loop-i-init : goal.loop-i-init
loop-i-init c = record { small = omega arith; none_yet = λ z k h. absurd (omega arith); one = λ p. absurd (omega arith) }

pub loop-i-preserved : goal.loop-i-preserved
unfolding columns
loop-i-preserved c =
    let l = c.loop-i in
    let s = c.args.syndrome in
    elim c.if-table-i.branch [
      | then-table-i w ↦ subst (λ (n : ℕ). Sought s n (l.i + 1)) (sym w.left-is) (found s l.left l.i c.loop-i-test.true w.if-table-i.true l.invariant)
      | else-table-i w ↦ subst (λ (n : ℕ). Sought s n (l.i + 1)) (sym w.left-is) (passed s l.left l.i c.loop-i-test.true w.if-table-i.false l.invariant)
    ]

pub returns-then-left-eq0 : goal.returns-then-left-eq0
returns-then-left-eq0 c =
    let s = c.args.syndrome in
    let l = c.loop-i in
    let e : l.i ≡ 72 = omega arith in nowhere s l.left (subst (Sought s l.left) e l.invariant) c.if-left-eq0.true

pub returns : goal.returns
returns c =
    let s = c.args.syndrome in
    let l = c.loop-i in
    let e : l.i ≡ 72 = omega arith in there s l.left (subst (Sought s l.left) e l.invariant) c.if-left-eq0.false

pub overflow_sub-result : goal.overflow_sub-result
overflow_sub-result c = omega (arith, c.loop-i.invariant.small)
