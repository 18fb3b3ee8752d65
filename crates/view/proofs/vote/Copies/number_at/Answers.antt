use mathlib.Core.Path.{ap, ◌∙◌}
use mathlib.Core.List.{List}
use Prim.Native.Nat.{ℕ, ◌+◌}
use native.Mathlib.Omega.{arith}
use native.Mathlib.Nat.{add-zero}
use lib.ListN.{take, drop}
use lib.Seq.{get_or-take}
use Rattle.model.specs.Bytes.{read}
use Rattle.model.specs.Layout.{voted}
use Rattle.model.proofs.BytesLaw.{read_ext, read_drop}
use Rattle.view.proofs.vote.Copies.number_at.Goals as goal

-- `view::vote::Copies::number_at` meets its contract. Assumes nothing.
pub returns : goal.returns
returns g c =
    let s = c.args.self in
    let n = g.row.N in
    let v = voted s.base s.len s.bytes.now in
    let p = c.args.p in
    c.from_bytes.ensures
    ∙ ap (λ (l : List ℕ). read n l 0) c.bytes_at.ensures
    ∙ read_ext n (take n (drop p v)) (drop p v) 0 0 (λ j h. get_or-take n (drop p v) (0 + j) 0 (omega arith))
    ∙ read_drop n p v 0
    ∙ ap (read n v) (add-zero p)
