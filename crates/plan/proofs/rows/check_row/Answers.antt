use Rattle.std.proofs.Common.{rules, ◌≡◌, true, false, sym, ◌∙◌}
use Rattle.plan.specs.Checking.{bad_row, marked, row_verdict}
use Rattle.plan.proofs.rows.check_row.Goals as goal

-- `plan::rows::check_row` meets its contract. Assumes nothing.
pub returns-then-bad-clause-is : goal.returns-then-bad-clause-is
unfolding row_verdict
returns-then-bad-clause-is c = let bad : bad_row c.args.row ≡ true = sym c.is_bad-bad.ensures ∙ c.if-bad.true in simp bad

pub returns-then-again-clause-is : goal.returns-then-again-clause-is
unfolding row_verdict
returns-then-again-clause-is c =
    let good : bad_row c.args.row ≡ false = search rules in
    let again : marked c.args.seen.now.bits c.args.row.kind ≡ true = sym c.contains-again.ensures ∙ c.if-again.true in
    simp (good, again)

pub returns-clause-is : goal.returns-clause-is
unfolding row_verdict
returns-clause-is c =
    let good : bad_row c.args.row ≡ false = sym c.is_bad-bad.ensures ∙ c.if-bad.false in
    let new : marked c.args.seen.now.bits c.args.row.kind ≡ false = sym c.contains-again.ensures ∙ c.if-again.false in
    simp (good, new)
