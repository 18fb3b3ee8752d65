use mathlib.Core.Path.{ap, ◌∙◌}
use Rattle.std.specs.Prelude.{Option, Some}
use Rattle.model.specs.Mend.{MendAnswer}
use Rattle.model.proofs.ProgramsLaw.{mend_long, mend_short}
use Rattle.findings.specs.Answers.{left_within}
use Rattle.error.proofs.PassedOn.{err_is}
use Rattle.findings.specs.declared.Rejected.TheVariants.{Refused}
use Rattle.findings.specs.Answers.{as_outcome}
use Rattle.findings.proofs.mend_within.Goals as goal

-- `findings::mend_within` meets its contract. Assumes nothing.
pub returns-then-image-limit : goal.returns-then-image-limit
returns-then-image-limit c =
    let a = c.args in
    let x = a.image.now in
    let e = mend_long a.limit x c.if-image-limit.true in
    record { is = e; leaves = ap (λ (o : Option MendAnswer). left_within o x) e }

pub returns-in_err-mend : goal.returns-in_err-mend
returns-in_err-mend c =
    let a = c.args in
    let x = a.image.now in
    let y = c.mend.new.bytes in
    let e = mend_short a.limit x c.if-image-limit.false in
    record {
      is = ap (λ r. as_outcome r y) (err_is _ (Refused c.in_err-mend.field-0.0) c.from_residual.ensures.1) ∙ ap Some c.in_err-mend.ensures.is ∙ e;
      leaves = c.mend.ensures.leaves ∙ ap (λ (o : Option MendAnswer). left_within o x) e;
    }

pub returns : goal.returns
returns c =
    let a = c.args in
    let x = a.image.now in
    let e = mend_short a.limit x c.if-image-limit.false in
    record { is = ap Some c.in_ok-mend.ensures.is ∙ e; leaves = c.mend.ensures.leaves ∙ ap (λ (o : Option MendAnswer). left_within o x) e }
