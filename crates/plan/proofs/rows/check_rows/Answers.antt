use Rattle.std.proofs.Common.{ℕ, List, sym, subst}
use Rattle.std.proofs.lemmas.Result.{err_from_is_err_and}
use Rattle.plan.proofs.CheckLaw.{Passed, none_passed, row_refused, row_passed, all_fine, all_counted}
use Rattle.plan.proofs.rows.check_rows.Goals as goal

pub loop-i-init : goal.loop-i-init
loop-i-init c = subst (λ (b : List ℕ). Passed c.args.rows.now b 0 0) (sym c.new-seen.ensures) (none_passed c.args.rows.now)

pub returns-in_err-check_row-clause-is : goal.returns-in_err-check_row-clause-is
returns-in_err-check_row-clause-is c = let p = err_from_is_err_and c.from_residual.result c.from_residual.ensures.1 in rw (p.1, p.2) (row_refused c.loop-i.invariant c.loop-i-test.true _ c.in_err-check_row.ensures.is)

pub loop-i-preserved : goal.loop-i-preserved
loop-i-preserved c = row_passed c.loop-i.invariant c.loop-i-test.true c.in_ok-check_row.ensures.is c.in_ok-check_row.ensures.ok c.regions-regions.ensures.is c.regions-regions.ensures.few

pub returns-clause-is : goal.returns-clause-is
returns-clause-is c = all_fine c.loop-i.invariant c.loop-i-test.false

pub returns-clause-counts : goal.returns-clause-counts
returns-clause-counts c = all_counted c.loop-i.invariant c.loop-i-test.false
