-- No two answers fit one promise, nor two sets of numbers or bytes that are left. Assumes nothing.
use mathlib.Core.Path.{refl}
use Rattle.model.proofs.OneAnswer.{OneAnswer, OneAnswerAnd, OneAnswerAndBoth, agree}
use Rattle.kw_test.proofs.kwt_u8_at.Reads as kwt-u8-at
use Rattle.kw_test.proofs.kwt_u16_at.Reads as kwt-u16-at
use Rattle.kw_test.proofs.kwt_u32_at.Reads as kwt-u32-at
use Rattle.kw_test.proofs.kwt_u64_at.Reads as kwt-u64-at
use Rattle.kw_test.proofs.kwt_u8_bytes.Reads as kwt-u8-bytes
use Rattle.kw_test.proofs.kwt_u16_bytes.Reads as kwt-u16-bytes
use Rattle.kw_test.proofs.kwt_u32_bytes.Reads as kwt-u32-bytes
use Rattle.kw_test.proofs.kwt_u64_bytes.Reads as kwt-u64-bytes
use Rattle.kw_test.proofs.kwt_maj3.Reads as kwt-maj3
use Rattle.kw_test.proofs.kwt_crc32.Reads as kwt-crc32
use Rattle.kw_test.proofs.kwt_words_for.Reads as kwt-words-for
use Rattle.kw_test.proofs.kwt_header_bytes.Reads as kwt-header-bytes
use Rattle.kw_test.proofs.kwt_region.Reads as kwt-region
use Rattle.kw_test.proofs.kwt_plane_kind_for.Reads as kwt-plane-kind-for
use Rattle.kw_test.proofs.kwt_check_byte.Reads as kwt-check-byte
use Rattle.kw_test.proofs.kwt_decode_word.Reads as kwt-decode-word
use Rattle.kw_test.proofs.kwt_plane_word.Reads as kwt-plane-word
use Rattle.kw_test.proofs.kwt_plane_scan.Reads as kwt-plane-scan
use Rattle.kw_test.proofs.kwt_report.Reads as kwt-report
use Rattle.kw_test.proofs.parts.kwt_region_span.Reads as kwt-region-span
use Rattle.kw_test.proofs.parts.kwt_records_span.Reads as kwt-records-span
use Rattle.kw_test.proofs.parts.kwt_record_place.Reads as kwt-record-place
use Rattle.kw_test.proofs.parts.kwt_pool_place.Reads as kwt-pool-place
use Rattle.kw_test.proofs.parts.kwt_is_table.Reads as kwt-is-table
use Rattle.kw_test.proofs.parts.kwt_record_count.Reads as kwt-record-count
use Rattle.kw_test.proofs.parts.kwt_range_is_forward.Reads as kwt-range-is-forward
use Rattle.kw_test.proofs.parts.kwt_region_bytes.Reads as kwt-region-bytes
use Rattle.kw_test.proofs.parts.kwt_records_bytes.Reads as kwt-records-bytes
use Rattle.kw_test.proofs.parts.kwt_record_bytes.Reads as kwt-record-bytes
use Rattle.kw_test.proofs.parts.kwt_pool_bytes.Reads as kwt-pool-bytes
use Rattle.kw_test.proofs.reader.kwt_parse.Reads as kwt-parse
use Rattle.kw_test.proofs.reader.kwt_region_at.Reads as kwt-region-at
use Rattle.kw_test.proofs.reader.kwt_find_region.Reads as kwt-find-region
use Rattle.kw_test.proofs.reader.kwt_ecc_for.Reads as kwt-ecc-for
use Rattle.kw_test.proofs.scans.kwt_verify_region.Reads as kwt-verify-region
use Rattle.kw_test.proofs.scans.kwt_verify_all.Reads as kwt-verify-all
use Rattle.kw_test.proofs.scans.kwt_scrub.Reads as kwt-scrub
use Rattle.kw_test.proofs.values.kwt_borrowed_table.Reads as kwt-borrowed-table
use Rattle.kw_test.proofs.values.kwt_borrowed_record.Reads as kwt-borrowed-record
use Rattle.kw_test.proofs.values.kwt_borrowed_forward.Reads as kwt-borrowed-forward
use Rattle.kw_test.proofs.values.kwt_borrowed_pool.Reads as kwt-borrowed-pool
use Rattle.kw_test.proofs.values.kwt_borrowed_plane.Reads as kwt-borrowed-plane

pub one_answer_kwt_u8_at : OneAnswerAnd kwt-u8-at.Learnt (λ κs s. s.1.1.0.now)
one_answer_kwt_u8_at κs a r r' s s' p q = (refl, agree p q)

pub one_answer_kwt_u16_at : OneAnswerAnd kwt-u16-at.Learnt (λ κs s. s.1.1.0.now)
one_answer_kwt_u16_at κs a r r' s s' p q = (refl, agree p q)

pub one_answer_kwt_u32_at : OneAnswerAnd kwt-u32-at.Learnt (λ κs s. s.1.1.0.now)
one_answer_kwt_u32_at κs a r r' s s' p q = (refl, agree p q)

pub one_answer_kwt_u64_at : OneAnswerAnd kwt-u64-at.Learnt (λ κs s. s.1.1.0.now)
one_answer_kwt_u64_at κs a r r' s s' p q = (refl, agree p q)

pub one_answer_kwt_u8_bytes : OneAnswerAnd kwt-u8-bytes.Learnt (λ κs s. s.1.0.now)
one_answer_kwt_u8_bytes κs a r r' s s' p q = (refl, agree p q)

pub one_answer_kwt_u16_bytes : OneAnswerAnd kwt-u16-bytes.Learnt (λ κs s. s.1.0.now)
one_answer_kwt_u16_bytes κs a r r' s s' p q = (refl, agree p q)

pub one_answer_kwt_u32_bytes : OneAnswerAnd kwt-u32-bytes.Learnt (λ κs s. s.1.0.now)
one_answer_kwt_u32_bytes κs a r r' s s' p q = (refl, agree p q)

pub one_answer_kwt_u64_bytes : OneAnswerAnd kwt-u64-bytes.Learnt (λ κs s. s.1.0.now)
one_answer_kwt_u64_bytes κs a r r' s s' p q = (refl, agree p q)

pub one_answer_kwt_maj3 : OneAnswer kwt-maj3.Learnt
one_answer_kwt_maj3 κs a r r' s s' p q = agree p q

pub one_answer_kwt_crc32 : OneAnswer kwt-crc32.Learnt
one_answer_kwt_crc32 κs a r r' s s' p q = agree p q

pub one_answer_kwt_words_for : OneAnswerAnd kwt-words-for.Learnt (λ κs s. s.1.0.now)
one_answer_kwt_words_for κs a r r' s s' p q = (refl, agree p q)

pub one_answer_kwt_header_bytes : OneAnswerAnd kwt-header-bytes.Learnt (λ κs s. s.1.0.now)
one_answer_kwt_header_bytes κs a r r' s s' p q = (refl, agree p q)

pub one_answer_kwt_region : OneAnswerAnd kwt-region.Learnt (λ κs s. s.1.1.1.1.1.0.now)
one_answer_kwt_region κs a r r' s s' p q = (refl, agree p q)

pub one_answer_kwt_plane_kind_for : OneAnswer kwt-plane-kind-for.Learnt
one_answer_kwt_plane_kind_for κs a r r' s s' p q = agree p q

pub one_answer_kwt_check_byte : OneAnswer kwt-check-byte.Learnt
one_answer_kwt_check_byte κs a r r' s s' p q = agree p q

pub one_answer_kwt_decode_word : OneAnswerAnd kwt-decode-word.Learnt (λ κs s. s.1.1.0.now)
one_answer_kwt_decode_word κs a r r' s s' p q = (refl, agree p q)

pub one_answer_kwt_plane_word : OneAnswerAnd kwt-plane-word.Learnt (λ κs s. s.1.1.1.0.now)
one_answer_kwt_plane_word κs a r r' s s' p q = (refl, agree p q)

pub one_answer_kwt_plane_scan : OneAnswerAnd kwt-plane-scan.Learnt (λ κs s. s.1.1.0.now)
one_answer_kwt_plane_scan κs a r r' s s' p q = (refl, agree p q)

pub one_answer_kwt_report : OneAnswerAnd kwt-report.Learnt (λ κs s. s.1.1.1.0.now)
one_answer_kwt_report κs a r r' s s' p q = (refl, agree p q)

pub one_answer_kwt_region_span : OneAnswerAnd kwt-region-span.Learnt (λ κs s. s.1.1.1.0.now)
one_answer_kwt_region_span κs a r r' s s' p q = (refl, agree p q)

pub one_answer_kwt_records_span : OneAnswerAnd kwt-records-span.Learnt (λ κs s. s.1.1.1.1.0.now)
one_answer_kwt_records_span κs a r r' s s' p q = (refl, agree p q)

pub one_answer_kwt_record_place : OneAnswerAnd kwt-record-place.Learnt (λ κs s. s.1.1.1.0.now)
one_answer_kwt_record_place κs a r r' s s' p q = (refl, agree p q)

pub one_answer_kwt_pool_place : OneAnswerAnd kwt-pool-place.Learnt (λ κs s. s.1.1.1.0.now)
one_answer_kwt_pool_place κs a r r' s s' p q = (refl, agree p q)

pub one_answer_kwt_is_table : OneAnswer kwt-is-table.Learnt
one_answer_kwt_is_table κs a r r' s s' p q = agree p q

pub one_answer_kwt_record_count : OneAnswer kwt-record-count.Learnt
one_answer_kwt_record_count κs a r r' s s' p q = agree p q

pub one_answer_kwt_range_is_forward : OneAnswer kwt-range-is-forward.Learnt
one_answer_kwt_range_is_forward κs a r r' s s' p q = agree p q

pub one_answer_kwt_region_bytes : OneAnswerAnd kwt-region-bytes.Learnt (λ κs s. s.1.1.1.0.now)
one_answer_kwt_region_bytes κs a r r' s s' p q = (refl, agree p q)

pub one_answer_kwt_records_bytes : OneAnswerAnd kwt-records-bytes.Learnt (λ κs s. s.1.1.1.1.0.now)
one_answer_kwt_records_bytes κs a r r' s s' p q = (refl, agree p q)

pub one_answer_kwt_record_bytes : OneAnswerAnd kwt-record-bytes.Learnt (λ κs s. s.1.1.1.0.now)
one_answer_kwt_record_bytes κs a r r' s s' p q = (refl, agree p q)

pub one_answer_kwt_pool_bytes : OneAnswerAnd kwt-pool-bytes.Learnt (λ κs s. s.1.1.1.0.now)
one_answer_kwt_pool_bytes κs a r r' s s' p q = (refl, agree p q)

pub one_answer_kwt_parse : OneAnswerAnd kwt-parse.Learnt (λ κs s. s.1.0.now)
one_answer_kwt_parse κs a r r' s s' p q = (refl, agree p q)

pub one_answer_kwt_region_at : OneAnswerAnd kwt-region-at.Learnt (λ κs s. s.1.1.1.0.now)
one_answer_kwt_region_at κs a r r' s s' p q = (refl, agree p q)

pub one_answer_kwt_find_region : OneAnswerAnd kwt-find-region.Learnt (λ κs s. s.1.1.1.0.now)
one_answer_kwt_find_region κs a r r' s s' p q = (refl, agree p q)

pub one_answer_kwt_ecc_for : OneAnswerAnd kwt-ecc-for.Learnt (λ κs s. s.1.1.1.0.now)
one_answer_kwt_ecc_for κs a r r' s s' p q = (refl, agree p q)

pub one_answer_kwt_verify_region : OneAnswerAnd kwt-verify-region.Learnt (λ κs s. s.1.1.1.1.1.1.1.0.now)
one_answer_kwt_verify_region κs a r r' s s' p q = (refl, agree p q)

pub one_answer_kwt_verify_all : OneAnswerAnd kwt-verify-all.Learnt (λ κs s. s.1.1.0.now)
one_answer_kwt_verify_all κs a r r' s s' p q = (refl, agree p q)

pub one_answer_kwt_scrub : OneAnswerAndBoth kwt-scrub.Learnt (λ κs s. s.0.now) (λ κs s. s.1.0.now)
one_answer_kwt_scrub κs a r r' s s' p q = (refl, (agree p.1 q.1, agree p.0 q.0))

pub one_answer_kwt_borrowed_table : OneAnswerAnd kwt-borrowed-table.Learnt (λ κs s. s.1.1.0.now)
one_answer_kwt_borrowed_table κs a r r' s s' p q = (refl, agree p q)

pub one_answer_kwt_borrowed_record : OneAnswerAnd kwt-borrowed-record.Learnt (λ κs s. s.1.1.1.0.now)
one_answer_kwt_borrowed_record κs a r r' s s' p q = (refl, agree p q)

pub one_answer_kwt_borrowed_forward : OneAnswer kwt-borrowed-forward.Learnt
one_answer_kwt_borrowed_forward κs a r r' s s' p q = agree p q

pub one_answer_kwt_borrowed_pool : OneAnswerAnd kwt-borrowed-pool.Learnt (λ κs s. s.1.1.1.0.now)
one_answer_kwt_borrowed_pool κs a r r' s s' p q = (refl, agree p q)

pub one_answer_kwt_borrowed_plane : OneAnswerAnd kwt-borrowed-plane.Learnt (λ κs s. s.1.1.1.0.now)
one_answer_kwt_borrowed_plane κs a r r' s s' p q = (refl, agree p q)
