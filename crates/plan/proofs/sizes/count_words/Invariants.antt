use Rattle.std.proofs.Common.{◌≡◌, ◌+◌, ◌*◌, ◌≤◌, drop}
use Rattle.model.specs.Writer.{row_words_lem, planes_words}
use Rattle.plan.specs.Rows.{as_plan}
use Rattle.plan.proofs.sizes.count_words.Given as goal

-- `plan::sizes::count_words` meets its contract. The invariant: the sums, and what the rows that are left add to them. Assumes nothing.
abbrev pub invariant-loop-row : goal.invariant-loop-row
invariant-loop-row l =
    (l.words ≤ l.row-index * 4294967295) × (l.words + row_words_lem (as_plan (drop l.row-index l.rows)) ≡ row_words_lem (as_plan l.rows))
    × (l.planes ≤ l.row-index * 4294967295) × (l.planes + planes_words (as_plan (drop l.row-index l.rows)) ≡ planes_words (as_plan l.rows))
