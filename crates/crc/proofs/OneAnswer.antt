-- No two answers fit one promise. Assumes nothing.
use Rattle.model.proofs.OneAnswer.{OneAnswer, agree}
use Rattle.crc.proofs.crc32.Reads as crc32

-- ---- no two answers of a function fit its promise

pub one_answer_crc32 : OneAnswer crc32.Learnt
one_answer_crc32 κs a r r' s s' p q = agree p.0 q.0
