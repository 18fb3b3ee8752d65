use Rattle.plan.proofs.CheckLaw.{Passed}
use Rattle.plan.proofs.rows.check_rows.Given as goal

-- The invariant: the first i rows passed, and are counted and marked.
abbrev pub invariant-loop-i : goal.invariant-loop-i
invariant-loop-i l = Passed l.rows l.seen.bits l.regions l.i
