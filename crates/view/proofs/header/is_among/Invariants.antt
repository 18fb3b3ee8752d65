use mathlib.Core.Path.{◌≡◌}
use mathlib.Core.Bool.{◌||◌}
use lib.ListN.{drop}
use Rattle.view.specs.Kinds.{elem}
use Rattle.view.proofs.header.is_among.Given as goal

-- `view::header::is_among` meets its contract. The invariant: with the kinds that are left, what was found is the answer. Assumes nothing.
abbrev pub invariant-loop-other : goal.invariant-loop-other
invariant-loop-other l = l.found || elem l.kind (drop l.other-index l.kinds) ≡ elem l.kind l.kinds
