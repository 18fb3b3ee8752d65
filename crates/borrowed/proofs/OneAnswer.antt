-- No two answers fit one promise. Assumes nothing.
use mathlib.Core.Path.{◌≡◌, ap}
use mathlib.Core.List.{List}
use Prim.Native.Nat.{ℕ}
use denote.Ref.{Bor}
use Rattle.model.proofs.OneAnswer.{One, OneAnswer, agree}
use Rattle.tables.proofs.OneAnswer.{one_place, SameSlice, one_part}
use Rattle.ecc.proofs.OneAnswer.{one_word, one_report}
use Rattle.borrowed.proofs.table.RecordTable.from_bytes.Reads as table_from_bytes
use Rattle.borrowed.proofs.table.RecordTable.len.Reads as table_len
use Rattle.borrowed.proofs.table.RecordTable.is_empty.Reads as table_is_empty
use Rattle.borrowed.proofs.table.RecordTable.stride.Reads as table_stride
use Rattle.borrowed.proofs.table.RecordTable.place.Reads as table_place
use Rattle.borrowed.proofs.table.RecordTable.get.Reads as table_get
use Rattle.borrowed.proofs.table.RecordTable.range_is_forward.Reads as table_range_is_forward
use Rattle.borrowed.proofs.pool.Pool.from_bytes.Reads as pool_from_bytes
use Rattle.borrowed.proofs.pool.Pool.bytes.Reads as pool_bytes
use Rattle.borrowed.proofs.pool.Pool.place.Reads as pool_place
use Rattle.borrowed.proofs.pool.Pool.slice.Reads as pool_slice
use Rattle.borrowed.proofs.plane.EccPlane.new.Reads as plane_new
use Rattle.borrowed.proofs.plane.EccPlane.bytes.Reads as plane_bytes
use Rattle.borrowed.proofs.plane.EccPlane.word.Reads as plane_word
use Rattle.borrowed.proofs.plane.EccPlane.scan.Reads as plane_scan

pub one_answer_table_from_bytes : One table_from_bytes.Learnt (λ κs r r' s s'. SameSlice r.bytes r'.bytes × (r.stride ≡ r'.stride))
one_answer_table_from_bytes κs a r r' s s' p q = (one_part p.0 q.0, agree p.1 q.1)

pub one_answer_table_len : OneAnswer table_len.Learnt
one_answer_table_len κs a r r' s s' p q = agree p q

pub one_answer_table_is_empty : OneAnswer table_is_empty.Learnt
one_answer_table_is_empty κs a r r' s s' p q = agree p q

pub one_answer_table_stride : OneAnswer table_stride.Learnt
one_answer_table_stride κs a r r' s s' p q = agree p q

pub one_answer_table_place : OneAnswer table_place.Learnt
one_answer_table_place κs a r r' s s' p q = one_place r r' (agree p q)

pub one_answer_table_get : One table_get.Learnt (λ κs r r' s s'. SameSlice r r')
one_answer_table_get κs a r r' s s' p q = one_part p q

pub one_answer_table_range_is_forward : OneAnswer table_range_is_forward.Learnt
one_answer_table_range_is_forward κs a r r' s s' p q = agree p q

pub one_answer_pool_from_bytes : OneAnswer pool_from_bytes.Learnt
one_answer_pool_from_bytes κs a r r' s s' p q = ap (λ (b : Bor (List ℕ)). record { bytes = b }) (agree p q)

pub one_answer_pool_bytes : OneAnswer pool_bytes.Learnt
one_answer_pool_bytes κs a r r' s s' p q = agree p q

pub one_answer_pool_place : OneAnswer pool_place.Learnt
one_answer_pool_place κs a r r' s s' p q = one_place r r' (agree p q)

pub one_answer_pool_slice : One pool_slice.Learnt (λ κs r r' s s'. SameSlice r r')
one_answer_pool_slice κs a r r' s s' p q = one_part p q

pub one_answer_plane_new : OneAnswer plane_new.Learnt
one_answer_plane_new κs a r r' s s' p q = ap (λ (b : Bor (List ℕ)). record { parity = b }) (agree p q)

pub one_answer_plane_bytes : OneAnswer plane_bytes.Learnt
one_answer_plane_bytes κs a r r' s s' p q = agree p q

pub one_answer_plane_word : OneAnswer plane_word.Learnt
one_answer_plane_word κs a r r' s s' p q = one_word r r' (agree p q)

pub one_answer_plane_scan : OneAnswer plane_scan.Learnt
one_answer_plane_scan κs a r r' s s' p q = one_report r r' (agree p q)
