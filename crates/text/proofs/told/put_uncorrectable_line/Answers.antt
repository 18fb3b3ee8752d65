use mathlib.Core.Path.{sym, subst}
use mathlib.Core.Bool.{Bool, cond}
use mathlib.Core.List.{[], ◌∷◌}
use native.Mathlib.Omega.{arith}
use borrow.Author.Tests.{lt-ltb, le-ltb}
use Rattle.model.specs.Programs.{text, field, lines}
use Rattle.put.specs.Put.{Put}
use Rattle.text.specs.Told.{uncorrectable_line}
use Rattle.put.proofs.LinesLaw.{put_last_line, put_none}
use Rattle.text.proofs.told.put_uncorrectable_line.Goals as goal

-- `text::told::put_uncorrectable_line` meets its contract: a line, or nothing. Assumes nothing.
pub returns-then-uncorrectable-gt0 : goal.returns-then-uncorrectable-gt0
unfolding uncorrectable_line field text
returns-then-uncorrectable-gt0 c =
    let a = c.args in
    let line = c.put_field-end in
    let end = c.put_line_feed in record {
      is = subst (λ (b : Bool). Put a.out.now a.at (lines (cond b (uncorrectable_line a.uncorrectable ∷ []) [])) end.result end.new.out) (sym (lt-ltb 0 a.uncorrectable c.if-uncorrectable-gt0.true))
          (put_last_line a.out.now a.at _ line.ensures.is end.ensures.is);
      few = omega (arith, line.ensures.few, end.ensures.few);
    }

pub returns-else-uncorrectable-gt0 : goal.returns-else-uncorrectable-gt0
unfolding lines
returns-else-uncorrectable-gt0 c =
    let a = c.args in
    record { is = subst (λ (b : Bool). Put a.out.now a.at (lines (cond b (uncorrectable_line a.uncorrectable ∷ []) [])) a.at a.out.now) (sym (le-ltb 0 a.uncorrectable c.if-uncorrectable-gt0.false)) (put_none a.out.now a.at); few = omega arith }
