-- No two answers fit one promise. (`as_span` and `as_place` tell every two apart, `PartAt` every two slices.) Assumes nothing.
use mathlib.Core.Path.{◌≡◌, refl, ap, ap₂}
use mathlib.Core.List.{List}
use Prim.Native.Nat.{ℕ}
use denote.Ref.{Bor}
use Rattle.std.specs.Prelude.{Option, Some, None, Result, Ok, Err}
use Rattle.model.specs.Views.{Range}
use Rattle.error.specs.declared.Refusal.{Refusal}
use Rattle.model.proofs.OneAnswer.{One, OneAnswer, agree}
use Rattle.error.specs.Refused.{as_verdict}
use Rattle.error.proofs.OneAnswer.{one_refusal}
use Rattle.tables.specs.declared.Place.{Place}
use Rattle.tables.specs.Answers.{as_range, as_span, as_place}
use Rattle.tables.specs.Parts.{PartAt}
use Rattle.tables.proofs.region_span.Reads as region-span
use Rattle.tables.proofs.region_bytes.Reads as region-bytes
use Rattle.tables.proofs.records_span.Reads as records-span
use Rattle.tables.proofs.records_bytes.Reads as records-bytes
use Rattle.tables.proofs.is_table.Reads as is-table
use Rattle.tables.proofs.record_count.Reads as record-count
use Rattle.tables.proofs.record_place.Reads as record-place
use Rattle.tables.proofs.record_bytes.Reads as record_bytes_lem
use Rattle.tables.proofs.range_is_forward.Reads as range-is-forward
use Rattle.tables.proofs.pool_place.Reads as pool-place
use Rattle.tables.proofs.pool_bytes.Reads as pool_bytes

pub one_range : (r s : Place) → as_range r ≡ as_range s → r ≡ s
one_range r s e = ap (λ (p : Range). record { start = p.first; end = p.past }) e

pub one_span : (a b : Result Place Refusal) → as_span a ≡ as_span b → a ≡ b
one_span (Ok r) (Ok s) e = let f : as_range r ≡ as_range s = cc in ap Ok (one_range r s f)
one_span (Ok r) (Err q) e = cc
one_span (Err q) (Ok r) e = cc
one_span (Err r) (Err q) e = let v : as_verdict r ≡ as_verdict q = cc in ap Err (one_refusal r q v)

pub one_place : (a b : Option Place) → as_place a ≡ as_place b → a ≡ b
one_place (Some r) (Some s) e = let f : as_range r ≡ as_range s = cc in ap Some (one_range r s f)
one_place (Some r) None e = cc
one_place None (Some s) e = cc
one_place None None e = refl

-- two references to one slice: the same pointer, and the same bytes from there on, so the same machine value. (The third part of a reference, the ghost name under which the logic tracks its bytes, is new at each cut, and no contract can fix it.)
abbrev pub SameSlice : Bor (List ℕ) → Bor (List ℕ) → Type 0
SameSlice r r' = (r.ref_ptr ≡ r'.ref_ptr) × (r.now ≡ r'.now)

pub one_part : {lent r r' : Bor (List ℕ)} {n : ℕ} {xs : List ℕ} → PartAt lent r n xs → PartAt lent r' n xs → SameSlice r r'
one_part p q = (ap₂ (λ (b o : ℕ). (b, o)) (agree p.block q.block) (agree p.offset q.offset), agree p.holds q.holds)

-- ---- no two answers of a function fit its promise

pub one_answer_region_span : OneAnswer region-span.Learnt
one_answer_region_span κs a r r' s s' p q = one_span r r' (agree p q)

pub one_answer_region_bytes : One region-bytes.Learnt (λ κs r r' s s'. SameSlice r r')
one_answer_region_bytes κs a r r' s s' p q = one_part p q

pub one_answer_records_span : OneAnswer records-span.Learnt
one_answer_records_span κs a r r' s s' p q = one_span r r' (agree p q)

pub one_answer_records_bytes : One records-bytes.Learnt (λ κs r r' s s'. SameSlice r r')
one_answer_records_bytes κs a r r' s s' p q = one_part p q

pub one_answer_is_table : OneAnswer is-table.Learnt
one_answer_is_table κs a r r' s s' p q = agree p q

pub one_answer_record_count : OneAnswer record-count.Learnt
one_answer_record_count κs a r r' s s' p q = agree p q

pub one_answer_record_place : OneAnswer record-place.Learnt
one_answer_record_place κs a r r' s s' p q = one_place r r' (agree p q)

pub one_answer_record_bytes : One record_bytes_lem.Learnt (λ κs r r' s s'. SameSlice r r')
one_answer_record_bytes κs a r r' s s' p q = one_part p q

pub one_answer_range_is_forward : OneAnswer range-is-forward.Learnt
one_answer_range_is_forward κs a r r' s s' p q = agree p q

pub one_answer_pool_place : OneAnswer pool-place.Learnt
one_answer_pool_place κs a r r' s s' p q = one_place r r' (agree p q)

pub one_answer_pool_bytes : One pool_bytes.Learnt (λ κs r r' s s'. SameSlice r r')
one_answer_pool_bytes κs a r r' s s' p q = one_part p q
