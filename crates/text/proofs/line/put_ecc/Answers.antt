use mathlib.Core.Path.{sym, subst}
use native.Mathlib.Omega.{arith}
use Rattle.model.specs.Programs.{text, ecc_line}
use Rattle.put.specs.Put.{Put}
use Rattle.scan.specs.Answers.{as_scan}
use Rattle.std.specs.Prelude.{Option}
use Rattle.ecc.specs.declared.EccReport.{EccReport}
use Rattle.text.proofs.line.put_ecc.Goals as goal

-- `text::line::put_ecc` meets its contract: a text, or the counts. Assumes nothing.
pub returns-in-None : goal.returns-in-None
unfolding ecc_line text
returns-in-None c =
    let a = c.args in
    let all = c.put_bytes in
    record { is = subst (λ (s : Option EccReport). Put a.out.now a.at (ecc_line (as_scan s)) all.result all.new.out) (sym c.in-None.is) all.ensures; few = omega (arith, all.ensures.behind) }

pub returns-in-Some : goal.returns-in-Some
returns-in-Some c =
    let a = c.args in
    let all = c.put_counts in
    record { is = subst (λ (s : Option EccReport). Put a.out.now a.at (ecc_line (as_scan s)) all.result all.new.out) (sym c.in-Some.is) all.ensures.is; few = all.ensures.few }
