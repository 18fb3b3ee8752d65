use mathlib.Core.Path.{refl, ap, ◌∙◌}
use Rattle.kw.specs.Numbers.{report_numbers}
use Rattle.kw.proofs.kw_scrub.Goals as goal

-- `kw::kw_scrub` meets its contract. Assumes nothing.
pub returns : goal.returns
returns c =
    let s = c.scrub.ensures in
    record { is = refl; answers = c.report_numbers.ensures ∙ ap report_numbers s.is; leaves = s.leaves }
