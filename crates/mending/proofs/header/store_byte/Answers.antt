use mathlib.Core.Path.{refl, sym, ap}
use mathlib.Core.Bool.{Bool, cond}
use borrow.Author.Tests.{eq-eqb, ne_eqb}
use Rattle.model.specs.Bytes.{at}
use Rattle.mending.proofs.header.store_byte.Goals as goal

-- `mending::header::store_byte` meets its contract. Assumes nothing.
pub returns-then-old-v : goal.returns-then-old-v
returns-then-old-v c = let g = c.args in record { leaves = refl; counts = ap (λ (t : Bool). cond t 0 1) (sym (eq-eqb (at g.bytes.now g.p) g.v c.if-old-v.true)) }

pub returns-else-old-v : goal.returns-else-old-v
returns-else-old-v c = let g = c.args in record { leaves = refl; counts = ap (λ (t : Bool). cond t 0 1) (sym (ne_eqb (at g.bytes.now g.p) g.v c.if-old-v.false)) }
