use mathlib.Core.Path.{sym}
use borrow.Author.Tests.{le-ltb}
use Rattle.model.specs.Programs.{text}
use Rattle.put.proofs.PutLaw.{put_two}
use Rattle.messages.proofs.usage.fault.Goals as goal

-- `messages::usage::fault` meets its contract: three texts, one behind the other. Assumes nothing.
pub returns-clause-leaves : goal.returns-clause-leaves
unfolding text
returns-clause-leaves c =
    let start = c.put_fault_start-at in
    let words = c.put_bytes-end in
    let put = put_two c.args.out.now 0 _ _ start.ensures.is (put_two start.new.out start.result _ _ words.ensures c.put_bytes.ensures) in
    simp (le-ltb 4096 _ c.if-word-gt-LONGEST_NAME.false, sym c.sentence_on.ensures.is) put.stored
