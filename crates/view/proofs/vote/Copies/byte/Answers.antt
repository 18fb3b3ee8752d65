use mathlib.Core.Path.{sym, ◌∙◌}
use Rattle.model.proofs.LayoutLaw.{at_voted}
use Rattle.view.proofs.vote.Copies.byte.Goals as goal

-- `view::vote::Copies::byte` meets its contract. Assumes nothing.
pub returns : goal.returns
returns c =
    let s = c.args.self in
    c.maj3.ensures.value ∙ sym (at_voted s.base s.len s.bytes.now c.args.j c.requires)
