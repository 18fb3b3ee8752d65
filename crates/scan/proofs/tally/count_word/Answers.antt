use mathlib.Core.Path.{sym, ap, ◌∙◌}
use Rattle.ecc.specs.Answers.{as_outcome, as_report}
use Rattle.ecc.specs.declared.WordStatus.{WordStatus}
use Rattle.scan.specs.Tally.{report_on}
use Rattle.model.specs.Steps.{plus}
use Rattle.scan.proofs.TallyLaw.{on_clean, on_corrected, on_uncorrectable}
use Rattle.scan.proofs.tally.count_word.Goals as goal

-- `scan::tally::count_word` meets its contract. Assumes nothing.
pub returns-in-Clean : goal.returns-in-Clean
returns-in-Clean c =
    let g = c.args in
    on_clean (as_report g.report) 0 ∙ ap (λ (s : WordStatus). plus (as_report g.report) (report_on (as_outcome s))) (sym c.in-Clean.is)

pub returns-in-Corrected : goal.returns-in-Corrected
returns-in-Corrected c =
    let g = c.args in
    on_corrected (as_report g.report) 0 ∙ ap (λ (s : WordStatus). plus (as_report g.report) (report_on (as_outcome s))) (sym c.in-Corrected.is)

pub returns-in-Uncorrectable : goal.returns-in-Uncorrectable
returns-in-Uncorrectable c =
    let g = c.args in
    on_uncorrectable (as_report g.report) ∙ ap (λ (s : WordStatus). plus (as_report g.report) (report_on (as_outcome s))) (sym c.in-Uncorrectable.is)
