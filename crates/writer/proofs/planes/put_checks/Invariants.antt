use Rattle.std.proofs.Common.{◌+◌}
use Rattle.std.specs.Slice.Iter.{chunks_exact_rest, chunks_exact_size}
use Rattle.std.specs.Iterator.Adapters.{enumerate_source, enumerate_count}
use Rattle.writer.proofs.ChecksLaw.{Checked}
use Rattle.writer.proofs.planes.put_checks.Given as goal

-- `writer::planes::put_checks` meets its contract. The invariant: the check bytes of the words so far are put. Assumes nothing.
abbrev pub invariant-loop-i : goal.invariant-loop-i
invariant-loop-i l = Checked l.initial.out l.at l.words l.out (l.at + enumerate_count l.i-iterator) (chunks_exact_size (enumerate_source l.i-iterator)) (chunks_exact_rest (enumerate_source l.i-iterator))
