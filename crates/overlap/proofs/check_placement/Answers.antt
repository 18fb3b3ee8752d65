use mathlib.Core.Path.{ap, ◌∙◌}
use Rattle.error.proofs.PassedOn.{err_is}
use Rattle.overlap.specs.declared.Misplaced.TheVariants.{Refused}
use Rattle.overlap.specs.Answers.{as_placement}
use Rattle.overlap.proofs.AnswersLaw.{parse_refused, parse_accepted, few}
use Rattle.overlap.proofs.check_placement.Goals as goal

-- `overlap::check_placement` meets its contract. Assumes nothing.
pub returns-in_err-header : goal.returns-in_err-header
returns-in_err-header c =
    let e = c.in_err-header.field-0.0 in
    ap as_placement (err_is _ (Refused e) c.from_residual.ensures.1)
    ∙ parse_refused c.args.bytes.now c.parse.result c.parse.ensures e c.in_err-header.was

pub check_regions-requires : goal.check_regions-requires
check_regions-requires c = few c.args.bytes.now c.parse.result c.parse.ensures c.in_ok-header.header c.in_ok-header.was

pub returns : goal.returns
returns c = c.check_regions.ensures ∙ parse_accepted c.args.bytes.now c.parse.result c.parse.ensures c.in_ok-header.header c.in_ok-header.was
