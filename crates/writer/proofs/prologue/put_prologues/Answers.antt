use Rattle.std.proofs.Common.{arith}
use Rattle.lemmas.proofs.ImageLaw.{length_prologue_bytes}
use Rattle.put.proofs.PutLaw.{kept_length}
use Rattle.writer.proofs.CopiesLaw.{none_copied, copy_room, one_copied, all_copied}
use Rattle.writer.proofs.prologue.put_prologues.Goals as goal

pub loop-copy-init : goal.loop-copy-init
loop-copy-init c = none_copied _ _ _ (omega (arith, c.requires, length_prologue_bytes c.args.regions c.args.flags))

pub put_prologue-next-requires : goal.put_prologue-next-requires
put_prologue-next-requires c = omega (arith, copy_room c.loop-copy.invariant c.loop-copy-test.true, length_prologue_bytes c.args.regions c.args.flags)

pub loop-copy-preserved : goal.loop-copy-preserved
loop-copy-preserved c = one_copied c.loop-copy.invariant c.loop-copy-test.true c.put_prologue-next.ensures

pub shape_of-out : goal.shape_of-out
shape_of-out c = kept_length _ _ _ c.loop-copy.invariant.going

pub returns : goal.returns
returns c = all_copied c.loop-copy.invariant (omega arith)
