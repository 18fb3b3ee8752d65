use mathlib.Core.Path.{◌≡◌, sym, ap, ◌∙◌, subst}
use mathlib.Core.List.{[], ◌∷◌}
use Prim.Native.Nat.{ℕ}
use native.Mathlib.Omega.{arith}
use Rattle.io.proofs.Counting.{prefix_len_of_le}
use Rattle.model.specs.Programs.{lines, line_of}
use Rattle.put.specs.Put.{Put}
use Rattle.findings.specs.Answers.{as_outcome}
use Rattle.text.specs.Told.{uncorrectable_lines, mend_text}
use Rattle.std.specs.Prelude.{Result}
use Rattle.mending.specs.declared.Mending.{Mending}
use Rattle.findings.specs.declared.Rejected.{Rejected}
use Rattle.text.proofs.RejectedLaw.{rejected_told}
use Rattle.put.proofs.LinesLaw.{put_more, text_put}
use Rattle.text.proofs.told.mend_report.Goals as goal

-- `text::told::mend_report` meets its contract: scrub's line, and for a mended image what is uncorrectable. Assumes nothing.
pub returns-in-Err : goal.returns-in-Err
returns-in-Err c =
    let a = c.args in
    let line = c.put_outcome-second in
    let told : lines (line_of (as_outcome a.outcome []) ∷ []) ≡ mend_text (as_outcome a.outcome []) =
    ap (λ (o : Result Mending Rejected). lines (line_of (as_outcome o []) ∷ [])) c.in-Err.is ∙ rejected_told _ ∙ ap (λ (o : Result Mending Rejected). mend_text (as_outcome o [])) (sym c.in-Err.is) in
    let l = text_put a.out.now _ _ line.ensures.is told in
    record { is = l.0; leaves = l.1; fits = prefix_len_of_le _ _ (omega (arith, line.ensures.few, line.ensures.is.long)) }

pub returns-in-Ok : goal.returns-in-Ok
unfolding mend_text
returns-in-Ok c =
    let a = c.args in
    let line = c.put_outcome-second in
    let uncorrectable = c.put_uncorrectable_line in
    let e = c.in-Ok.is in
    let first = subst (λ (o : Result Mending Rejected). Put a.out.now 0 (lines (line_of (as_outcome o []) ∷ [])) line.result line.new.out) e line.ensures.is in
    let second = subst (λ (n : ℕ). Put line.new.out line.result (lines (uncorrectable_lines n)) uncorrectable.result uncorrectable.new.out) c.uncorrectable_in.ensures uncorrectable.ensures.is in
    let put = put_more a.out.now 0 _ _ first second in
    let l = text_put a.out.now _ _ put (ap (λ (o : Result Mending Rejected). mend_text (as_outcome o [])) (sym e)) in
    record { is = l.0; leaves = l.1; fits = prefix_len_of_le _ _ (omega (arith, line.ensures.few, uncorrectable.ensures.few, put.long)) }
