use Rattle.std.proofs.Common.{◌+◌, ◌*◌}
use Rattle.intel_hex.proofs.RecordLaw.{Pairwise}
use Rattle.intel_hex.proofs.record.put_pairs.Given as goal

-- `intel_hex::record::put_pairs` meets its contract. The invariant: the pairs of the bytes so far are put. Assumes nothing.
abbrev pub invariant-loop-i : goal.invariant-loop-i
invariant-loop-i l = Pairwise l.initial.text l.at l.bytes l.text (l.at + 2 * l.i) l.i
