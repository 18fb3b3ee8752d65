use Rattle.model.specs.Programs.{text}
use Rattle.put.proofs.PutLaw.{put_two}
use Rattle.messages.proofs.complaint.put_name.Goals as goal

-- `messages::complaint::put_name` meets its contract: two texts around the name. Assumes nothing.
pub returns-clause-is : goal.returns-clause-is
unfolding text
returns-clause-is c =
    let first = c.put_bytes-at in
    put_two c.args.out.now 0 _ _ first.ensures (put_two first.new.out first.result _ _ c.put_bytes-colon.ensures c.put_bytes.ensures)
