use mathlib.Core.Path.{◌≡◌}
use lib.ListN.{drop}
use Rattle.model.specs.Layout.{directory_of}
use Rattle.model.specs.Views.{first_that, plane_for}
use Rattle.view.proofs.directory.Directory.plane_of.Given as goal

-- `view::directory::Directory::plane_of` meets its contract. The invariant: the search over the entries that are left is the whole search. Assumes nothing.
abbrev pub invariant-loop-i : goal.invariant-loop-i
invariant-loop-i l = first_that (plane_for l.kind) (drop l.i (directory_of l.self.count l.self.bytes.now)) ≡ first_that (plane_for l.kind) (directory_of l.self.count l.self.bytes.now)
