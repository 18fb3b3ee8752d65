use Rattle.writer.specs.Directory.{directory_bytes}
use Rattle.writer.proofs.CopiesLaw.{Copied}
use Rattle.writer.proofs.directory.Directory.put_copies.Given as goal

-- `writer::directory::Directory::put_copies` meets its contract. The invariant: the copies so far are put. Assumes nothing.
abbrev pub invariant-loop-copy : goal.invariant-loop-copy
invariant-loop-copy l = Copied l.initial.out l.at (directory_bytes l.self.first_word l.self.plane_word l.self.rows.now) l.out l.next l._copy
