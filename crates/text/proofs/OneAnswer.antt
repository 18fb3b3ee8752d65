-- No two answers fit one promise, nor two lines or images that are left. Assumes nothing.
use mathlib.Core.Path.{ap₂}
use Prim.Native.Nat.{ℕ}
use Rattle.model.proofs.OneAnswer.{OneAnswerAnd, OneAnswerAndBoth, agree}
use Rattle.text.proofs.told.file_report.Reads as file-report
use Rattle.text.proofs.told.mend_report.Reads as mend-report
use Rattle.text.proofs.report.Reads as report
use Rattle.text.proofs.scrub.Reads as scrub

pub one_answer_file_report : OneAnswerAnd file-report.Learnt (λ κs s. s.1.1.1.0.now)
one_answer_file_report κs a r r' s s' p q = (agree p.0 q.0, agree p.1.0 q.1.0)

pub one_answer_mend_report : OneAnswerAnd mend-report.Learnt (λ κs s. s.1.0.now)
one_answer_mend_report κs a r r' s s' p q = (agree p.0 q.0, agree p.1.0 q.1.0)

pub one_answer_report : OneAnswerAnd report.Learnt (λ κs s. s.1.0.now)
one_answer_report κs a r r' s s' p q = (agree p.0 q.0, agree p.1.0 q.1.0)

-- the answer is two counts: of the bytes of the image that are to be written, and of the line
pub one_answer_scrub : OneAnswerAndBoth scrub.Learnt (λ κs s. s.0.now) (λ κs s. s.1.0.now)
one_answer_scrub κs a r r' s s' p q =
    (ap₂ (λ (n m : ℕ). record { image = n; line = m }) (agree p.1.1.1.0.0 q.1.1.1.0.0) (agree p.0 q.0), (agree p.1.1.0 q.1.1.0, agree p.1.0 q.1.0))
