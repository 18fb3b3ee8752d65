-- No two answers fit one promise. Assumes nothing.
use Rattle.model.proofs.OneAnswer.{OneAnswer, agree}
use Rattle.layout.proofs.Region.byte_offset.Reads as byte-offset
use Rattle.layout.proofs.Region.byte_length.Reads as byte-length
use Rattle.layout.proofs.Region.byte_end.Reads as byte-end
use Rattle.layout.proofs.Region.is_encrypted.Reads as is-encrypted
use Rattle.layout.proofs.Region.is_ecc_plane.Reads as is-ecc-plane
use Rattle.layout.proofs.Region.has_ecc.Reads as has-ecc
use Rattle.layout.proofs.Region.is_protected.Reads as is-protected
use Rattle.layout.proofs.words_for.Reads as words-for
use Rattle.layout.proofs.header_bytes.Reads as header_bytes_lem
use Rattle.layout.proofs.header_length.Reads as header-length

-- ---- no two answers of a function fit its promise

pub one_answer_byte_offset : OneAnswer byte-offset.Learnt
one_answer_byte_offset κs a r r' s s' p q = agree p q

pub one_answer_byte_length : OneAnswer byte-length.Learnt
one_answer_byte_length κs a r r' s s' p q = agree p q

pub one_answer_byte_end : OneAnswer byte-end.Learnt
one_answer_byte_end κs a r r' s s' p q = agree p q

pub one_answer_is_encrypted : OneAnswer is-encrypted.Learnt
one_answer_is_encrypted κs a r r' s s' p q = agree p q

pub one_answer_is_ecc_plane : OneAnswer is-ecc-plane.Learnt
one_answer_is_ecc_plane κs a r r' s s' p q = agree p q

pub one_answer_has_ecc : OneAnswer has-ecc.Learnt
one_answer_has_ecc κs a r r' s s' p q = agree p q

pub one_answer_is_protected : OneAnswer is-protected.Learnt
one_answer_is_protected κs a r r' s s' p q = agree p q

pub one_answer_words_for : OneAnswer words-for.Learnt
one_answer_words_for κs a r r' s s' p q = agree p q

pub one_answer_header_bytes : OneAnswer header_bytes_lem.Learnt
one_answer_header_bytes κs a r r' s s' p q = agree p q

pub one_answer_header_length : OneAnswer header-length.Learnt
one_answer_header_length κs a r r' s s' p q = agree p q
