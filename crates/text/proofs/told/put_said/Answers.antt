use mathlib.Core.Path.{sym, ap, ◌∙◌, subst}
use mathlib.Core.List.{List, []}
use Prim.Native.Nat.{ℕ}
use native.Mathlib.Omega.{arith}
use Rattle.std.specs.Prelude.{Result}
use Rattle.model.specs.Programs.{text, field, stored_line, line_of}
use Rattle.put.specs.Put.{Put}
use Rattle.mending.specs.declared.Mending.{Mending}
use Rattle.findings.specs.declared.Rejected.{Rejected}
use Rattle.findings.specs.Answers.{as_outcome}
use Rattle.text.proofs.RejectedLaw.{rejected_said}
use Rattle.text.proofs.told.put_said.Goals as goal

-- `text::told::put_said` meets its contract: one of three lines. Assumes nothing.
pub returns-in-Ok : goal.returns-in-Ok
unfolding stored_line field text
returns-in-Ok c =
    let a = c.args in
    let all = c.put_field in
    record { is = subst (λ (o : Result Mending Rejected). Put a.out.now 0 (line_of (as_outcome o [])) all.result all.new.out) (sym c.in-Ok.is) all.ensures.is; few = omega (arith, all.ensures.few) }

pub returns-in-Err : goal.returns-in-Err
returns-in-Err c =
    let a = c.args in
    let all = c.put_rejected in
    let e = rejected_said c.in-Err.rejected ∙ ap (λ (o : Result Mending Rejected). line_of (as_outcome o [])) (sym c.in-Err.is) in
    record { is = subst (λ (l : List ℕ). Put a.out.now 0 l all.result all.new.out) e all.ensures.is; few = omega (arith, all.ensures.few) }
