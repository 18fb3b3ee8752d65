use Rattle.model.specs.Writer.{row_entries, row_words_lem}
use Rattle.writer.proofs.EntriesLaw.{EntriesGo}
use Rattle.writer.proofs.directory.Directory.put_row_entries.Given as goal

-- `writer::directory::Directory::put_row_entries` meets its contract. The invariant: the entries of the rows so far are put. Assumes nothing.
abbrev pub invariant-loop-row : goal.invariant-loop-row
invariant-loop-row l = EntriesGo row_entries row_words_lem l.initial.out l.at l.self.rows.now l.self.first_word l.out l.next l.offset l.row-index
