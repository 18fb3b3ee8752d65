-- No two answers fit one promise, nor two images that are left. Assumes nothing.
use Rattle.model.proofs.OneAnswer.{OneAnswerAnd, agree}
use Rattle.scan.proofs.OneAnswer.{one_scan}
use Rattle.correcting.proofs.correct_region.Reads as correct-region

pub one_answer_correct_region : OneAnswerAnd correct-region.Learnt (λ κs s. s.1.0.now)
one_answer_correct_region κs a r r' s s' p q = (one_scan r r' (agree p.1.0 q.1.0), agree p.0 q.0)
