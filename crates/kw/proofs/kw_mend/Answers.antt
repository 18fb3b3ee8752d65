use mathlib.Core.Path.{sym, ap, ◌∙◌}
use mathlib.Core.List.{[], ◌∷◌}
use Prim.Native.Nat.{ℕ}
use Rattle.mending.specs.Answers.{as_mended}
use Rattle.std.specs.Prelude.{Result}
use Rattle.error.specs.declared.Refusal.{Refusal}
use Rattle.mending.specs.declared.Mending.{Mending}
use Rattle.kw.specs.Numbers.{mend_number, mend_numbers}
use Rattle.kw.proofs.kw_mend.Goals as goal

-- `kw::kw_mend` meets its contract. Assumes nothing.
pub returns-in-Ok : goal.returns-in-Ok
returns-in-Ok c =
    let o = c.mend in
    let e = ap (λ (r : Result Mending Refusal). as_mended r o.new.bytes) (sym c.in-Ok.is) ∙ o.ensures.is in
    record { is = ap mend_number e; answers = c.mending_numbers.ensures ∙ ap mend_numbers e; leaves = o.ensures.leaves }

pub returns-in-Err : goal.returns-in-Err
returns-in-Err c =
    let o = c.mend in
    let e = ap (λ (r : Result Mending Refusal). as_mended r o.new.bytes) (sym c.in-Err.is) ∙ o.ensures.is in record { is = c.number.ensures ∙ ap mend_number e; answers = ap (λ (d : ℕ). d ∷ 0 ∷ 0 ∷ 0 ∷ 0 ∷ 0 ∷ []) c.detail.ensures ∙ ap mend_numbers e; leaves = o.ensures.leaves }
