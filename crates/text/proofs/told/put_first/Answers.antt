use mathlib.Core.Path.{sym, ap, ◌∙◌, subst}
use mathlib.Core.List.{List}
use Prim.Native.Nat.{ℕ}
use native.Mathlib.Omega.{arith}
use Rattle.std.specs.Prelude.{Result}
use Rattle.put.specs.Put.{Put}
use Rattle.findings.specs.declared.Findings.{Findings}
use Rattle.findings.specs.declared.Rejected.{Rejected}
use Rattle.findings.specs.Answers.{as_found}
use Rattle.text.specs.Told.{first_line}
use Rattle.text.proofs.RejectedLaw.{rejected_first}
use Rattle.text.proofs.told.put_first.Goals as goal

-- `text::told::put_first` meets its contract: one of three lines. Assumes nothing.
pub returns-in-Ok : goal.returns-in-Ok
returns-in-Ok c =
    let a = c.args in
    let all = c.put_regions in
    record { is = subst (λ (f : Result Findings Rejected). Put a.out.now a.at (first_line (as_found f)) all.result all.new.out) (sym c.in-Ok.is) all.ensures.is; few = omega (arith, all.ensures.few) }

pub returns-in-Err : goal.returns-in-Err
returns-in-Err c =
    let a = c.args in
    let all = c.put_rejected in
    let e = rejected_first c.in-Err.rejected ∙ ap (λ (f : Result Findings Rejected). first_line (as_found f)) (sym c.in-Err.is) in
    record { is = subst (λ (l : List ℕ). Put a.out.now a.at l all.result all.new.out) e all.ensures.is; few = omega (arith, all.ensures.few) }
