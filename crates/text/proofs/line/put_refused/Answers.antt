use mathlib.Core.Path.{ap₂, subst}
use mathlib.Core.List.{List}
use Prim.Native.Nat.{ℕ}
use Rattle.put.specs.Put.{Put}
use native.Mathlib.Omega.{arith}
use Rattle.model.specs.Programs.{text, field, refused_line}
use Rattle.put.proofs.PutLaw.{put_two}
use Rattle.text.proofs.line.put_refused.Goals as goal

-- `text::line::put_refused` meets its contract: two fields. Assumes nothing.
pub returns : goal.returns
unfolding refused_line field text
returns c =
    let a = c.args in
    let number = c.put_field-detail in
    let detail = c.put_field in record {
      is = subst (λ (x : List ℕ). Put a.out.now a.at x detail.result detail.new.out) (ap₂ refused_line c.number.ensures c.detail.ensures)
          (put_two a.out.now a.at _ _ number.ensures.is detail.ensures.is);
      few = omega (arith, number.ensures.few, detail.ensures.few);
    }
