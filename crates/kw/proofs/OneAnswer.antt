-- No two answers fit one promise, nor two sets of numbers or bytes that are left. Assumes nothing.
use Rattle.model.proofs.OneAnswer.{OneAnswerAnd, OneAnswerAndBoth, agree}
use Rattle.kw.proofs.kw_parse.Reads as kw-parse
use Rattle.kw.proofs.kw_scan.Reads as kw-scan
use Rattle.kw.proofs.kw_scrub.Reads as kw-scrub
use Rattle.kw.proofs.kw_mend.Reads as kw-mend
use Rattle.kw.proofs.kw_write.Reads as kw-write
use Rattle.kw.proofs.regions.kw_region.Reads as kw-region
use Rattle.kw.proofs.regions.kw_region_at.Reads as kw-region-at

-- ---- no two answers of a function fit its promise

pub one_answer_kw_parse : OneAnswerAnd kw-parse.Learnt (λ κs s. s.1.0.now)
one_answer_kw_parse κs a r r' s s' p q = (agree p.0 q.0, agree p.1 q.1)

pub one_answer_kw_region : OneAnswerAnd kw-region.Learnt (λ κs s. s.1.1.0.now)
one_answer_kw_region κs a r r' s s' p q = (agree p.0 q.0, agree p.1 q.1)

pub one_answer_kw_region_at : OneAnswerAnd kw-region-at.Learnt (λ κs s. s.1.1.0.now)
one_answer_kw_region_at κs a r r' s s' p q = (agree p.0 q.0, agree p.1 q.1)

pub one_answer_kw_scan : OneAnswerAnd kw-scan.Learnt (λ κs s. s.1.0.now)
one_answer_kw_scan κs a r r' s s' p q = (agree p.0 q.0, agree p.1 q.1)

pub one_answer_kw_scrub : OneAnswerAndBoth kw-scrub.Learnt (λ κs s. s.0.now) (λ κs s. s.1.0.now)
one_answer_kw_scrub κs a r r' s s' p q = (agree p.0 q.0, (agree p.1.1 q.1.1, agree p.1.0 q.1.0))

pub one_answer_kw_mend : OneAnswerAndBoth kw-mend.Learnt (λ κs s. s.0.now) (λ κs s. s.1.0.now)
one_answer_kw_mend κs a r r' s s' p q = (agree p.0 q.0, (agree p.1.1 q.1.1, agree p.1.0 q.1.0))

pub one_answer_kw_write : OneAnswerAndBoth kw-write.Learnt (λ κs s. s.1.1.0.now) (λ κs s. s.1.1.1.0.now)
one_answer_kw_write κs a r r' s s' p q = (agree p.0 q.0, (agree p.2 q.2, agree p.1 q.1))
