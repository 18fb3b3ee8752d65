use Rattle.std.proofs.Common.{arith, length-set}
use Rattle.put.proofs.PutLaw.{kept_length}
use Rattle.intel_hex.proofs.RecordLaw.{none_paired, paired_to, pair_room, pair_put, all_paired}
use Rattle.intel_hex.proofs.record.put_pairs.Goals as goal

pub loop-i-init : goal.loop-i-init
loop-i-init c = paired_to (omega arith) (none_paired _ _ _ (omega arith))

pub bounds-text-at : goal.bounds-text-at
bounds-text-at c = omega (arith, pair_room c.loop-i.invariant c.loop-i-test.true)

pub bounds-text-at-in-loop-i : goal.bounds-text-at-in-loop-i
bounds-text-at-in-loop-i c = simp length-set (pair_room c.loop-i.invariant c.loop-i-test.true)

pub loop-i-preserved : goal.loop-i-preserved
loop-i-preserved c = paired_to (omega arith) (pair_put c.loop-i.invariant c.loop-i-test.true c.digit.ensures c.digit-in-loop-i.ensures)

pub shape_of-text : goal.shape_of-text
shape_of-text c = kept_length _ _ _ c.loop-i.invariant.going

pub returns : goal.returns
returns c = all_paired (paired_to (omega arith) c.loop-i.invariant) (omega arith)
