-- No two answers fit one promise, nor two names that are left. Assumes nothing.
use Rattle.model.proofs.OneAnswer.{OneAnswer, OneAnswerAnd, agree}
use Rattle.paths.proofs.folder_length.Reads as folder-length
use Rattle.paths.proofs.temporary.Reads as temporary
use Rattle.paths.proofs.followed.Reads as followed
use Rattle.paths.proofs.subject.Reads as subject

pub one_answer_folder_length : OneAnswer folder-length.Learnt
one_answer_folder_length κs a r r' s s' p q = agree p.0 q.0

pub one_answer_temporary : OneAnswerAnd temporary.Learnt (λ κs s. s.1.0.now)
one_answer_temporary κs a r r' s s' p q = (agree p.0 q.0, agree p.1.0 q.1.0)

pub one_answer_followed : OneAnswerAnd followed.Learnt (λ κs s. s.1.1.0.now)
one_answer_followed κs a r r' s s' p q = (agree p.0 q.0, agree p.1.0 q.1.0)

pub one_answer_subject : OneAnswerAnd subject.Learnt (λ κs s. s.1.0.now)
one_answer_subject κs a r r' s s' p q = (agree p.0 q.0, agree p.1.0 q.1.0)
