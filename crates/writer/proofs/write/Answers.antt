use Rattle.std.proofs.Common.{sym, ◌∙◌, arith}
use Rattle.std.proofs.lemmas.Result.{err_from_is_err_and}
use Rattle.model.specs.Writer.{regions}
use Rattle.error.specs.declared.Refusal.TheVariants.{TooManyRegions}
use Rattle.plan.proofs.RowsLaw.{length_plan}
use Rattle.writer.proofs.WriteLaw.{row_refused, too_many, by_sizes, told_refused, told_written}
use Rattle.writer.proofs.write.Goals as goal

-- `writer::write` meets its contract, refusal by refusal. Assumes nothing.
pub returns-in_err-regions : goal.returns-in_err-regions
returns-in_err-regions c =
    let told = told_refused _ _ _ _ (row_refused _ _ _ _ c.in_err-regions.ensures.is) in
    let p = err_from_is_err_and c.from_residual.result c.from_residual.ensures.1 in
    record { is = rw (p.1, p.2) told.0; leaves = told.1 }

pub returns-then-regions-gt-MAX_REGIONS : goal.returns-then-regions-gt-MAX_REGIONS
returns-then-regions-gt-MAX_REGIONS c =
    let rows = c.in_ok-regions.ensures in
    let told = told_refused _ _ _ (TooManyRegions c.in_ok-regions.regions) (too_many _ _ _ rows.is _ rows.counts c.if-regions-gt-MAX_REGIONS.true) in
    record { is = told.0; leaves = told.1 }

pub check_sizes-requires : goal.check_sizes-requires
unfolding regions
check_sizes-requires c = (omega (arith, c.in_ok-regions.ensures.counts, length_plan c.args.rows.now), c.if-regions-gt-MAX_REGIONS.false, c.in_ok-regions.ensures.counts)

pub returns-in_err-check_sizes : goal.returns-in_err-check_sizes
returns-in_err-check_sizes c =
    let rows = c.in_ok-regions.ensures in
    let told = told_refused _ _ _ _ (c.in_err-check_sizes.ensures ∙ by_sizes _ _ _ rows.is _ rows.counts c.if-regions-gt-MAX_REGIONS.false) in
    let p = err_from_is_err_and c.from_residual-in_err-check_sizes.result c.from_residual-in_err-check_sizes.ensures.1 in
    record { is = rw (p.1, p.2) told.0; leaves = told.1 }

pub put_image-requires-clause-fine : goal.put_image-requires-clause-fine
put_image-requires-clause-fine c =
    let rows = c.in_ok-regions.ensures in
    sym (c.in_ok-check_sizes.ensures ∙ by_sizes _ _ _ rows.is _ rows.counts c.if-regions-gt-MAX_REGIONS.false)

pub returns : goal.returns
returns c =
    let rows = c.in_ok-regions.ensures in
    let told = told_written _ _ _ (sym (c.in_ok-check_sizes.ensures ∙ by_sizes _ _ _ rows.is _ rows.counts c.if-regions-gt-MAX_REGIONS.false)) c.put_image.ensures in
    record { is = told.0; leaves = told.1 }
