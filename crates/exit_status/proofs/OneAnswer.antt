-- No two answers fit one promise. Assumes nothing.
use Rattle.model.proofs.OneAnswer.{OneAnswer, agree}
use Rattle.exit_status.proofs.report_verdict.Reads as report-verdict
use Rattle.exit_status.proofs.mending_verdict.Reads as mending-verdict
use Rattle.exit_status.proofs.is_written.Reads as is-written
use Rattle.exit_status.proofs.status.Reads as status
use Rattle.exit_status.proofs.higher.Reads as higher

pub one_answer_report_verdict : OneAnswer report-verdict.Learnt
one_answer_report_verdict κs a r r' s s' p q = agree p q

pub one_answer_mending_verdict : OneAnswer mending-verdict.Learnt
one_answer_mending_verdict κs a r r' s s' p q = agree p q

pub one_answer_is_written : OneAnswer is-written.Learnt
one_answer_is_written κs a r r' s s' p q = agree p q

pub one_answer_status : OneAnswer status.Learnt
one_answer_status κs a r r' s s' p q = agree p q

pub one_answer_higher : OneAnswer higher.Learnt
one_answer_higher κs a r r' s s' p q = agree p q
