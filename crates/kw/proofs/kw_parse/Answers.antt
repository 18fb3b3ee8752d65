use mathlib.Core.Path.{ap, ◌∙◌}
use mathlib.Core.List.{[], ◌∷◌}
use Prim.Native.Nat.{ℕ}
use Rattle.bits.specs.Bit.{num}
use Rattle.view.specs.Answers.{as_parsed}
use Rattle.kw.specs.Numbers.{refusal_number, parse_numbers}
use Rattle.kw.proofs.Told.{told, yes_no}
use Rattle.kw.proofs.kw_parse.Goals as goal

-- `kw::kw_parse` meets its contract. Assumes nothing.
pub returns-in-Ok : goal.returns-in-Ok
returns-in-Ok c =
    let h = c.in-Ok.h in
    let e = c.parse.ensures in record {
      is = told refusal_number as_parsed e c.in-Ok.is;
      answers = ap (λ (n : ℕ). h.region_count ∷ n ∷ []) (yes_no c.needs_scrub.result ∙ ap num c.needs_scrub.ensures)
          ∙ told parse_numbers as_parsed e c.in-Ok.is;
    }

pub returns-in-Err : goal.returns-in-Err
returns-in-Err c =
    let e = c.parse.ensures in record { is = c.number.ensures ∙ told refusal_number as_parsed e c.in-Err.is; answers = ap (λ (d : ℕ). d ∷ 0 ∷ []) c.detail.ensures ∙ told parse_numbers as_parsed e c.in-Err.is }
