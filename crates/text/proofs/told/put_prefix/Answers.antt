use mathlib.Core.Path.{sym, subst}
use mathlib.Core.Bool.{Bool}
use native.Mathlib.Omega.{arith}
use Rattle.model.specs.Programs.{text}
use Rattle.put.specs.Put.{Put}
use Rattle.put.proofs.PutLaw.{put_two}
use Rattle.text.specs.Told.{prefix}
use Rattle.put.proofs.LinesLaw.{put_none}
use Rattle.text.proofs.told.put_prefix.Goals as goal

-- `text::told::put_prefix` meets its contract: the name and a text, or nothing. Assumes nothing.
pub returns-then-several : goal.returns-then-several
unfolding prefix text
returns-then-several c =
    let a = c.args in
    let name = c.put_bytes-colon in
    let colon = c.put_bytes in record { is = subst (λ (b : Bool). Put a.out.now a.at (prefix a.name.now b) colon.result colon.new.out) (sym c.if-several.true) (put_two a.out.now a.at _ _ name.ensures colon.ensures); few = omega (arith, name.ensures.behind, colon.ensures.behind) }

pub returns-else-several : goal.returns-else-several
unfolding prefix
returns-else-several c =
    let a = c.args in
    record { is = subst (λ (b : Bool). Put a.out.now a.at (prefix a.name.now b) a.at a.out.now) (sym c.if-several.false) (put_none a.out.now a.at); few = omega arith }
