use mathlib.Core.Path.{◌≡◌, ap, ◌∙◌}
use mathlib.Core.List.{[], ◌∷◌}
use Prim.Native.Nat.{ℕ}
use Rattle.model.specs.Refusals.{fine}
use Rattle.model.specs.Layout.{count}
use Rattle.model.specs.Parse.{Parsed, parse_verdict}
use Rattle.model.specs.Scan.{scan_in, scan}
use Rattle.view.specs.Answers.{as_parsed}
use Rattle.view.proofs.AnswersLaw.{parsed_fine, parsed_count}
use Rattle.kw.specs.Numbers.{refusal_number, report_numbers, scan_numbers}
use Rattle.scan.proofs.VisitLaw.{scan_is}
use Rattle.kw.proofs.Told.{told}
use Rattle.kw.proofs.kw_scan.Goals as goal

-- `kw::kw_scan` meets its contract. Assumes nothing.
pub returns-in-Ok : goal.returns-in-Ok
returns-in-Ok c =
    let x = c.args.image.now in
    let h = c.in-Ok.h in
    let p = c.parse in
    let n : h.region_count ≡ count x = parsed_count x p.result p.ensures h c.in-Ok.is in
    let f : parse_verdict x ≡ fine = parsed_fine x p.result p.ensures h c.in-Ok.is in record {
      is = told refusal_number as_parsed p.ensures c.in-Ok.is;
      answers = c.report_numbers.ensures
          ∙ ap report_numbers (c.verify_all.ensures ∙ ap (λ (m : ℕ). scan_in m x) n ∙ scan_is x f)
          ∙ told (λ (o : Parsed). scan_numbers o (scan x)) as_parsed p.ensures c.in-Ok.is;
    }

pub returns-in-Err : goal.returns-in-Err
returns-in-Err c =
    let x = c.args.image.now in
    let e = c.parse.ensures in record {
      is = c.number.ensures ∙ told refusal_number as_parsed e c.in-Err.is;
      answers = ap (λ (d : ℕ). d ∷ 0 ∷ 0 ∷ 0 ∷ []) c.detail.ensures
          ∙ told (λ (o : Parsed). scan_numbers o (scan x)) as_parsed e c.in-Err.is;
    }
