use Rattle.model.specs.Writer.{prologue_bytes}
use Rattle.writer.proofs.CopiesLaw.{Copied}
use Rattle.writer.proofs.prologue.put_prologues.Given as goal

-- `writer::prologue::put_prologues` meets its contract. The invariant: the copies so far are put. Assumes nothing.
abbrev pub invariant-loop-copy : goal.invariant-loop-copy
invariant-loop-copy l = Copied l.initial.out 0 (prologue_bytes l.regions l.flags) l.out l.next l._copy
