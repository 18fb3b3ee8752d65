-- No two answers fit one promise, nor two texts that are left. Assumes nothing.
use Rattle.model.proofs.OneAnswer.{OneAnswerAnd, agree}
use Rattle.messages.proofs.complaint.refusal.Reads as refusal
use Rattle.messages.proofs.usage.help.Reads as help
use Rattle.messages.proofs.usage.version.Reads as version
use Rattle.messages.proofs.usage.fault.Reads as fault

pub one_answer_refusal : OneAnswerAnd refusal.Learnt (λ κs s. s.1.1.0.now)
one_answer_refusal κs a r r' s s' p q = (agree p.0 q.0, agree p.1.0 q.1.0)

pub one_answer_help : OneAnswerAnd help.Learnt (λ κs s. s.1.0.now)
one_answer_help κs a r r' s s' p q = (agree p.0 q.0, agree p.1.0 q.1.0)

pub one_answer_version : OneAnswerAnd version.Learnt (λ κs s. s.0.now)
one_answer_version κs a r r' s s' p q = (agree p.0 q.0, agree p.1.0 q.1.0)

pub one_answer_fault : OneAnswerAnd fault.Learnt (λ κs s. s.1.1.0.now)
one_answer_fault κs a r r' s s' p q = (agree p.0 q.0, agree p.1.0 q.1.0)
