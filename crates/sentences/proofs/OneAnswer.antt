-- No two answers fit one promise, nor two texts that are left. Assumes nothing.
use Rattle.model.proofs.OneAnswer.{OneAnswerAnd, agree}
use Rattle.sentences.proofs.in_words.Reads as in_words_lem

pub one_answer_in_words : OneAnswerAnd in_words_lem.Learnt (λ κs s. s.1.0.now)
one_answer_in_words κs a r r' s s' p q = (agree p.0 q.0, agree p.1.0 q.1.0)
