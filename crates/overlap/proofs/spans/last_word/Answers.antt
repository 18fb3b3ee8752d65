use mathlib.Core.Path.{sym, ap, ◌∙◌}
use Prim.Native.Nat.{ℕ, ◌-◌, min}
use native.Mathlib.Omega.{arith}
use Rattle.layout.specs.Regions.{as_entry}
use Rattle.overlap.proofs.SpanLaw.{last_none, last_min}
use Rattle.overlap.proofs.spans.last_word.Goals as goal

-- `overlap::spans::last_word` meets its contract. Assumes nothing.
pub returns-then-region-eq0 : goal.returns-then-region-eq0
returns-then-region-eq0 c = let g = c.args in sym (last_none (as_entry g.region) (omega arith))

pub returns : goal.returns
returns c =
    let g = c.args in
    c.min.ensures ∙ ap (λ (n : ℕ). min (n - 1) 4294967295) c.end_word.ensures.0 ∙ sym (last_min (as_entry g.region) (omega arith))
