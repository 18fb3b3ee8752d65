use Rattle.std.proofs.Common.{ap, arith}
use Rattle.model.specs.Writer.{row_words_lem, planes_words}
use Rattle.plan.proofs.RowsLaw.{words_next, planes_next, rows_end}
use Rattle.plan.proofs.sizes.count_words.Goals as goal
use Rattle.plan.proofs.sizes.count_words.Goals.{then-is_protected, else-is_protected}

pub loop-row-preserved : goal.loop-row-preserved
loop-row-preserved c =
    let a = c.loop-row in
    let n = words_next c.args.rows.now a.row-index c.loop-row-test.true in
    let m = planes_next c.args.rows.now a.row-index c.loop-row-test.true in
    elim c.if-is_protected.branch [
      | then-is_protected w ↦ grind (arith, n, m)
      | else-is_protected w ↦ grind (arith, n, m)
    ]

pub returns-clause-words : goal.returns-clause-words
unfolding row_words_lem
returns-clause-words c = let a = c.loop-row in omega (arith, a.invariant.1, ap row_words_lem (rows_end c.args.rows.now a.row-index (omega arith)))

pub returns-clause-planes : goal.returns-clause-planes
unfolding planes_words
returns-clause-planes c = let a = c.loop-row in omega (arith, a.invariant.3, ap planes_words (rows_end c.args.rows.now a.row-index (omega arith)))
