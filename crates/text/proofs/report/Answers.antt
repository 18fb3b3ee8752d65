use mathlib.Core.Path.{◌≡◌, refl, ap, ◌∙◌}
use mathlib.Core.Bool.{false}
use mathlib.Core.List.{[]}
use native.Mathlib.Omega.{arith}
use Rattle.io.proofs.Counting.{prefix_len_of_le}
use Rattle.model.specs.Programs.{Found, too_long, refused_image, image, lines, report_lines, report_text}
use Rattle.text.specs.Told.{prefix, file_lines}
use Rattle.put.proofs.LinesLaw.{text_put}
use Rattle.text.proofs.report.Goals as goal

-- `text::report` meets its contract. Assumes nothing.
-- of one file the lines have no prefix
alone : (f : Found) → file_lines [] false f ≡ lines (report_lines f)
unfolding file_lines prefix
alone too_long = refl
alone (refused_image n d) = refl
alone (image n b s) = refl

pub returns : goal.returns
unfolding report_text
returns c =
    let a = c.args in
    let all = c.put_report in
    let l = text_put a.out.now _ _ all.ensures.is (alone _ ∙ ap (λ (f : Found). lines (report_lines f)) c.look-found.ensures) in
    record { is = l.0; leaves = l.1; fits = prefix_len_of_le _ _ (omega (arith, all.ensures.few, all.ensures.is.long)) }
