use mathlib.Core.Path.{◌≡◌}
use lib.ListN.{drop}
use Rattle.model.specs.Layout.{directory_of}
use Rattle.model.specs.Views.{first_that, of_kind}
use Rattle.view.proofs.regions.find_region.Given as goal

-- `view::regions::find_region` meets its contract. The invariant: the search over the entries that are left is the whole search. Assumes nothing.
abbrev pub invariant-loop-i : goal.invariant-loop-i
invariant-loop-i l = first_that (of_kind l.kind) (drop l.i (directory_of l.directory.count l.directory.bytes.now)) ≡ first_that (of_kind l.kind) (directory_of l.directory.count l.directory.bytes.now)
