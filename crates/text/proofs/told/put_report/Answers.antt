use mathlib.Core.Path.{sym, ap, ◌∙◌, subst}
use mathlib.Core.Bool.{Bool}
use Prim.Native.Nat.{ℕ}
use mathlib.Core.List.{List, [], ◌∷◌, ◌++◌}
use native.Mathlib.Omega.{arith}
use Rattle.model.specs.Programs.{lines}
use Rattle.put.specs.Put.{Put}
use Rattle.put.proofs.PutLaw.{put_two}
use Rattle.findings.specs.Answers.{as_found}
use Rattle.text.specs.Told.{prefix, first_line, file_lines}
use Rattle.std.specs.Prelude.{Result}
use Rattle.findings.specs.declared.Findings.{Findings}
use Rattle.findings.specs.declared.Rejected.{Rejected}
use Rattle.text.proofs.RejectedLaw.{rejected_alone}
use Rattle.put.proofs.LinesLaw.{put_last_line, put_more}
use Rattle.text.proofs.told.put_report.Goals as goal

-- `text::told::put_report` meets its contract: a line, and for an image a second one. Assumes nothing.
-- where the report is one line
abbrev OneLine : List ℕ → List ℕ → Bool → ℕ → List ℕ → Result Findings Rejected → Type 0
OneLine o name several r o' f = Put o 0 (lines ((prefix name several ++ first_line (as_found f)) ∷ [])) r o'

pub returns-in-Err : goal.returns-in-Err
returns-in-Err c =
    let a = c.args in
    let end = c.put_line_feed-second in
    let e = c.in-Err.is in
    let line = subst (OneLine a.out.now a.name.now a.several end.result end.new.out) e (put_last_line a.out.now 0 _ (put_two a.out.now 0 _ _ c.put_prefix-start.ensures.is c.put_first-end.ensures.is) end.ensures.is) in
    let f = rejected_alone a.name.now a.several _ ∙ ap (λ (q : Result Findings Rejected). file_lines a.name.now a.several (as_found q)) (sym e) in record {
      is = subst (λ (l : List ℕ). Put a.out.now 0 l end.result end.new.out) f line;
      few = omega (arith, c.put_prefix-start.ensures.few, c.put_first-end.ensures.few, end.ensures.few);
    }

pub returns-in-Ok : goal.returns-in-Ok
unfolding file_lines
returns-in-Ok c =
    let a = c.args in
    let end = c.put_line_feed-second in
    let second = c.put_second in
    let e = c.in-Ok.is in record {
      is = subst (λ (f : Result Findings Rejected). Put a.out.now 0 (file_lines a.name.now a.several (as_found f)) second.result second.new.out) (sym e)
          (put_more a.out.now 0 _ _ (subst (OneLine a.out.now a.name.now a.several end.result end.new.out) e (put_last_line a.out.now 0 _ (put_two a.out.now 0 _ _ c.put_prefix-start.ensures.is c.put_first-end.ensures.is) end.ensures.is)) second.ensures.is);
      few = omega (arith, c.put_prefix-start.ensures.few, c.put_first-end.ensures.few, end.ensures.few, second.ensures.few);
    }
