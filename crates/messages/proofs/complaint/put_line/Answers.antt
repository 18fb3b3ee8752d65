use Rattle.model.specs.Programs.{text}
use Rattle.put.proofs.PutLaw.{put_two}
use Rattle.put.proofs.LinesLaw.{put_last_line}
use Rattle.messages.proofs.complaint.put_line.Goals as goal

-- `messages::complaint::put_line` meets its contract: a name, a text and a line feed. Assumes nothing.
pub returns-clause-is : goal.returns-clause-is
unfolding text
returns-clause-is c =
    let o = c.args.out.now in
    put_last_line o 0 _ (put_two o 0 _ _ c.put_name-at.ensures.is c.put_bytes-end.ensures) c.put_bytes.ensures
