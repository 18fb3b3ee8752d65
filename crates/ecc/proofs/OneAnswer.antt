-- No two answers fit one promise. (`as_outcome`, `as_word` and `as_report` tell every two apart: each is read back from what they make of it.) Assumes nothing.
use mathlib.Core.Path.{◌≡◌, refl, sym, ap, ◌∙◌}
use Rattle.std.specs.Prelude.{Option, None, Some, option_map}
use Rattle.model.specs.Parity.{Outcome, clean_word, corrected_word, uncorrectable_word}
use Rattle.model.specs.Scan.{Report}
use Rattle.model.proofs.OneAnswer.{One, OneAnswer, OneAnswerAnd, agree}
use Rattle.ecc.specs.declared.WordStatus.{WordStatus}
use Rattle.ecc.specs.declared.WordStatus.TheVariants.{Clean, Corrected, Uncorrectable}
use Rattle.ecc.specs.declared.EccReport.{EccReport}
use Rattle.ecc.specs.Answers.{as_outcome, as_word, as_report}
use Rattle.ecc.proofs.plane_kind_for.Reads as plane-kind-for
use Rattle.ecc.proofs.check_byte.Reads as check-byte
use Rattle.ecc.proofs.decode_word.Reads as decode-word
use Rattle.ecc.proofs.EccReport.is_clean.Reads as is_clean
use Rattle.ecc.proofs.EccReport.needs_scrub.Reads as needs-scrub
use Rattle.ecc.proofs.plane_word.Reads as plane_word_lem
use Rattle.ecc.proofs.plane_scan.Reads as plane-scan
use Rattle.ecc.proofs.check_table.CheckTable.of.Reads as table-of
use Rattle.ecc.proofs.check_table.CheckTable.check_byte.Reads as table-check-byte
use Rattle.ecc.proofs.check_table.CheckTable.decode_word.Reads as table-decode-word
use Rattle.ecc.proofs.check_table.CheckTable.plane_scan.Reads as table-plane-scan
use Rattle.ecc.proofs.check_table.fill_check_table.Reads as fill-check-table
use Rattle.ecc.proofs.check_table.check_byte_with.Reads as check-byte-with
use Rattle.ecc.proofs.check_table.decode_word_with.Reads as decode-word-with
use Rattle.ecc.proofs.check_table.plane_scan_with.Reads as plane-scan-with

status : Outcome → WordStatus
status (clean_word w) = Clean w
status (corrected_word w) = Corrected w
status uncorrectable_word = Uncorrectable

status_back : (s : WordStatus) → status (as_outcome s) ≡ s
unfolding status
status_back (Clean w) = refl
status_back (Corrected w) = refl
status_back Uncorrectable = refl

pub one_status : (a b : WordStatus) → as_outcome a ≡ as_outcome b → a ≡ b
one_status a b e = sym (status_back a) ∙ ap status e ∙ status_back b

word_back : (p : Option WordStatus) → option_map status (as_word p) ≡ p
word_back (Some s) = ap Some (status_back s)
word_back None = refl

pub one_word : (a b : Option WordStatus) → as_word a ≡ as_word b → a ≡ b
one_word a b e = sym (word_back a) ∙ ap (option_map status) e ∙ word_back b

pub one_report : (a b : EccReport) → as_report a ≡ as_report b → a ≡ b
one_report a b e =
    ap (λ (r : Report). record { words = r.words; corrected = r.corrected; uncorrectable = r.uncorrectable }) e

-- ---- no two answers of a function fit its promise

pub one_answer_plane_kind_for : OneAnswer plane-kind-for.Learnt
one_answer_plane_kind_for κs a r r' s s' p q = agree p q

pub one_answer_check_byte : OneAnswer check-byte.Learnt
one_answer_check_byte κs a r r' s s' p q = agree p q

pub one_answer_decode_word : OneAnswer decode-word.Learnt
one_answer_decode_word κs a r r' s s' p q = one_status r r' (agree p q)

pub one_answer_is_clean : OneAnswer is_clean.Learnt
one_answer_is_clean κs a r r' s s' p q = agree p q

pub one_answer_needs_scrub : OneAnswer needs-scrub.Learnt
one_answer_needs_scrub κs a r r' s s' p q = agree p q

pub one_answer_plane_word : OneAnswer plane_word_lem.Learnt
one_answer_plane_word κs a r r' s s' p q = one_word r r' (agree p q)

pub one_answer_plane_scan : OneAnswer plane-scan.Learnt
one_answer_plane_scan κs a r r' s s' p q = one_report r r' (agree p q)

pub one_answer_fill_check_table : OneAnswerAnd fill-check-table.Learnt (λ κs s. s.0.now)
one_answer_fill_check_table κs a r r' s s' p q = (refl, agree p q)

pub one_answer_check_byte_with : OneAnswer check-byte-with.Learnt
one_answer_check_byte_with κs a r r' s s' p q = agree p q

pub one_answer_decode_word_with : OneAnswer decode-word-with.Learnt
one_answer_decode_word_with κs a r r' s s' p q = one_status r r' (agree p q)

pub one_answer_plane_scan_with : OneAnswer plane-scan-with.Learnt
one_answer_plane_scan_with κs a r r' s s' p q = one_report r r' (agree p q)

-- in what the table holds: where it lies is the caller's
pub one_answer_table_of : One table-of.Learnt (λ κs r r' s s'. r.entries ≡ r'.entries)
one_answer_table_of κs a r r' s s' p q = agree p q

pub one_answer_table_check_byte : OneAnswer table-check-byte.Learnt
one_answer_table_check_byte κs a r r' s s' p q = agree p q

pub one_answer_table_decode_word : OneAnswer table-decode-word.Learnt
one_answer_table_decode_word κs a r r' s s' p q = one_status r r' (agree p q)

pub one_answer_table_plane_scan : OneAnswer table-plane-scan.Learnt
one_answer_table_plane_scan κs a r r' s s' p q = one_report r r' (agree p q)
