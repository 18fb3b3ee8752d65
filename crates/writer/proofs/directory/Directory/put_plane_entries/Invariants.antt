use Rattle.model.specs.Writer.{plane_entries, planes_words}
use Rattle.writer.proofs.EntriesLaw.{EntriesGo}
use Rattle.writer.proofs.directory.Directory.put_plane_entries.Given as goal

-- `writer::directory::Directory::put_plane_entries` meets its contract. The invariant: the entries of the planes of the rows so far are put. Assumes nothing.
abbrev pub invariant-loop-row : goal.invariant-loop-row
invariant-loop-row l = EntriesGo plane_entries planes_words l.initial.out l.at l.self.rows.now l.self.plane_word l.out l.next l.offset l.row-index
