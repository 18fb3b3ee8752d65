use mathlib.Core.Path.{sym}
use lib.Seq.{length-take-le}
use Rattle.view.proofs.header.check_directory.Goals as goal

-- `view::header::check_directory` meets its contract. Assumes nothing.
pub slice_bounds-check_entries_in-end : goal.slice_bounds-check_entries_in-end
slice_bounds-check_entries_in-end c = sym (length-take-le c.args.directory.count _ c.requires)

pub check_entries_in-requires : goal.check_entries_in-requires
check_entries_in-requires c = (c.requires, length-take-le c.args.directory.count _ c.requires)
