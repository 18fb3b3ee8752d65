use mathlib.Core.Path.{ap, ◌∙◌}
use mathlib.Core.List.{[], ◌∷◌}
use Prim.Native.Nat.{ℕ}
use Rattle.model.specs.Layout.{count}
use Rattle.model.specs.Parse.{Parsed}
use Rattle.model.specs.Views.{find_region}
use Rattle.view.specs.Answers.{as_parsed}
use Rattle.std.specs.Prelude.{Option}
use Rattle.layout.specs.declared.Region.{Region}
use Rattle.kw.specs.Numbers.{refusal_number}
use Rattle.kw.specs.Regions.{place_numbers, region_numbers, as_found}
use Rattle.kw.proofs.Told.{told}
use Rattle.kw.proofs.RegionsLaw.{place_told}
use Rattle.kw.proofs.regions.kw_region.Goals as goal

-- `kw::regions::kw_region` meets its contract. Assumes nothing.
pub returns-in-Ok : goal.returns-in-Ok
returns-in-Ok c =
    let g = c.args in
    let p = c.parse in record {
      is = told refusal_number as_parsed p.ensures c.in-Ok.is;
      answers = c.place_numbers.ensures
          ∙ ap (λ (r : Option Region). place_numbers (as_found r)) c.find_region.ensures
          ∙ place_told g.image.now p.result p.ensures c.in-Ok.h c.in-Ok.is g.kind;
    }

pub returns-in-Err : goal.returns-in-Err
returns-in-Err c =
    let g = c.args in
    let x = g.image.now in
    let e = c.parse.ensures in record {
      is = c.number.ensures ∙ told refusal_number as_parsed e c.in-Err.is;
      answers = ap (λ (d : ℕ). d ∷ 0 ∷ 0 ∷ 0 ∷ []) c.detail.ensures
          ∙ told (λ (o : Parsed). region_numbers o (find_region (count x) x g.kind)) as_parsed e c.in-Err.is;
    }
