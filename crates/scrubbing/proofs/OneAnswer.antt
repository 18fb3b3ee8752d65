-- No two answers fit one promise, nor two images that are left. Assumes nothing.
use Rattle.model.proofs.OneAnswer.{OneAnswerAnd, agree}
use Rattle.scan.proofs.OneAnswer.{one_scan}
use Rattle.scrubbing.proofs.scrub.Reads as scrub

pub one_answer_scrub : OneAnswerAnd scrub.Learnt (λ κs s. s.0.now)
one_answer_scrub κs a r r' s s' p q = (one_scan r r' (agree p.0 q.0), agree p.1 q.1)
