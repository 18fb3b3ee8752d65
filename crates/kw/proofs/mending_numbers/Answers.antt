use mathlib.Core.Path.{◌≡◌, refl, ap, ◌∙◌}
use mathlib.Core.List.{List, [], ◌∷◌, ◌++◌}
use Rattle.std.specs.Prelude.{Option, None, Some}
use Prim.Native.Nat.{ℕ}
use lib.ListN.{get_or}
use Rattle.bits.specs.Bit.{num}
use Rattle.model.specs.Scan.{Report}
use Rattle.scan.specs.Answers.{as_scan}
use Rattle.kw.specs.Numbers.{report_numbers}
use Rattle.kw.proofs.Told.{yes_no}
use Rattle.kw.proofs.mending_numbers.Goals as goal

-- `kw::mending_numbers` meets its contract. Assumes nothing.
-- the numbers of a report, one by one
abbrev first_four : List ℕ → List ℕ → List ℕ
first_four n rest = get_or n 0 0 ∷ get_or n 1 0 ∷ get_or n 2 0 ∷ get_or n 3 0 ∷ rest

all_four : (s : Option Report) (rest : List ℕ) → first_four (report_numbers s) rest ≡ report_numbers s ++ rest
all_four (Some r) rest = refl
all_four None rest = refl

pub returns : goal.returns
returns c =
    let m = c.args.m in
    let n = c.report_numbers-n.result in
    let rest : List ℕ = m.stored ∷ num m.whole ∷ [] in
    ap (λ (w : ℕ). first_four n (m.stored ∷ w ∷ [])) (yes_no m.whole)
    ∙ ap (λ (l : List ℕ). first_four l rest) c.report_numbers-n.ensures ∙ all_four (as_scan m.report) rest
