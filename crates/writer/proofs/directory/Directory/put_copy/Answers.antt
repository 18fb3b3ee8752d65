use Rattle.std.proofs.Common.{ℕ, List, ◌++◌, length, ap, subst, arith, length-append}
use Rattle.model.specs.Layout.{Entry}
use Rattle.model.specs.Writer.{Row, row_entries, plane_entries, entries_bytes}
use Rattle.lemmas.proofs.ImageLaw.{entries_bytes_append}
use Rattle.plan.specs.Rows.{as_plan}
use Rattle.put.proofs.PutLaw.{Going, begin, go_on, last}
use Rattle.writer.proofs.directory.Directory.put_copy.Goals as goal

-- `writer::directory::Directory::put_copy` meets its contract. Assumes nothing.
pub put_row_entries-planes-requires : goal.put_row_entries-planes-requires
put_row_entries-planes-requires c =
    let rs : List Row = as_plan c.args.self.rows.now in
    let es : List Entry = row_entries c.args.self.first_word rs in
    let fs : List Entry = plane_entries c.args.self.plane_word rs in
    omega (arith, c.requires, ap length (entries_bytes_append es fs), length-append (entries_bytes es) (entries_bytes fs))

pub put_plane_entries-requires : goal.put_plane_entries-requires
put_plane_entries-requires c =
    let rs : List Row = as_plan c.args.self.rows.now in
    let es : List Entry = row_entries c.args.self.first_word rs in
    let fs : List Entry = plane_entries c.args.self.plane_word rs in
    omega (arith, c.requires, c.put_row_entries-planes.ensures.behind, c.put_row_entries-planes.ensures.long, ap length (entries_bytes_append es fs), length-append (entries_bytes es) (entries_bytes fs))

pub returns : goal.returns
returns c =
    let o : List ℕ = c.args.out.now in
    let rs : List Row = as_plan c.args.self.rows.now in
    let es : List Entry = row_entries c.args.self.first_word rs in
    let fs : List Entry = plane_entries c.args.self.plane_word rs in
    let g0 = subst (Going o c.args.at (entries_bytes (es ++ fs)) o c.args.at) (entries_bytes_append es fs) (begin o c.args.at (entries_bytes (es ++ fs)) c.requires) in
    last _ _ (entries_bytes fs) (go_on _ _ (entries_bytes es) (entries_bytes fs) g0 c.put_row_entries-planes.ensures) c.put_plane_entries.ensures
