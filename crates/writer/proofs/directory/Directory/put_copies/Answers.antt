use Rattle.std.proofs.Common.{arith}
use Rattle.put.proofs.PutLaw.{kept_length}
use Rattle.writer.proofs.CopiesLaw.{none_copied, copy_room, one_copied, all_copied}
use Rattle.writer.proofs.directory.Directory.put_copies.Goals as goal

pub loop-copy-init : goal.loop-copy-init
loop-copy-init c = none_copied _ _ _ c.requires

pub put_copy-next-requires : goal.put_copy-next-requires
put_copy-next-requires c = copy_room c.loop-copy.invariant c.loop-copy-test.true

pub loop-copy-preserved : goal.loop-copy-preserved
loop-copy-preserved c = one_copied c.loop-copy.invariant c.loop-copy-test.true c.put_copy-next.ensures

pub shape_of-out : goal.shape_of-out
shape_of-out c = kept_length _ _ _ c.loop-copy.invariant.going

pub returns : goal.returns
returns c = all_copied c.loop-copy.invariant (omega arith)
