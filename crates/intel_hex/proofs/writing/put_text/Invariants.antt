use Rattle.std.proofs.Common.{◌*◌}
use Rattle.std.specs.Slice.Iter.{chunks_rest, chunks_size}
use Rattle.std.specs.Iterator.Adapters.{enumerate_source, enumerate_count}
use Rattle.intel_hex.proofs.WritingLaw.{Lined}
use Rattle.intel_hex.proofs.writing.put_text.Given as goal

-- `intel_hex::writing::put_text` meets its contract. The invariant: the lines so far are put, and the others are left to cut. Assumes nothing.
abbrev pub invariant-loop-i : goal.invariant-loop-i
invariant-loop-i l = Lined l.initial.text l.bytes l.text l.next (16 * enumerate_count l.i-iterator) (chunks_size (enumerate_source l.i-iterator)) (chunks_rest (enumerate_source l.i-iterator))
