use Rattle.std.proofs.Common.{◌≡◌, ℕ, ◌/◌, ◌%◌, ◌<◌, List, [], ◌∷◌, length, ap, arith, length-set}
use Rattle.intel_hex.specs.Steps.{type_of}
use Rattle.intel_hex.proofs.RecordLaw.{head_of, data_room, sum_room, feed_room, line_put}
use Rattle.intel_hex.proofs.record.put_record.Goals as goal

-- `intel_hex::record::put_record` meets its contract. Assumes nothing.
pub put_pairs-data-requires : goal.put_pairs-data-requires
put_pairs-data-requires c =
    simp length-set (omega (arith, c.requires, ap length c.head-head.ensures))

headed : {h : List ℕ} {t : ℕ} (n address : ℕ) → h ≡ n ∷ address / 256 ∷ address % 256 ∷ t ∷ [] → h ≡ head_of n address t
unfolding head_of
headed n address e = e

pub put_pairs-tail-requires : goal.put_pairs-tail-requires
put_pairs-tail-requires c =
    let a = c.args in
    data_room a.text.now a.at a.address (type_of a.kind) a.bytes.now _ _ c.requires.room (headed (length a.bytes.now) a.address c.head-head.ensures) c.sum_byte-sum.ensures c.put_pairs-data.ensures

pub put_pairs-end-requires : goal.put_pairs-end-requires
put_pairs-end-requires c =
    let a = c.args in
    sum_room a.text.now a.at a.address (type_of a.kind) a.bytes.now _ _ c.requires.room (headed (length a.bytes.now) a.address c.head-head.ensures) c.sum_byte-sum.ensures c.put_pairs-data.ensures c.put_pairs-tail.ensures

pub bounds-text-end : goal.bounds-text-end
bounds-text-end c =
    let a = c.args in
    feed_room a.text.now a.at a.address (type_of a.kind) a.bytes.now _ _ c.requires.room (headed (length a.bytes.now) a.address c.head-head.ensures) c.sum_byte-sum.ensures c.put_pairs-data.ensures c.put_pairs-tail.ensures c.put_pairs-end.ensures

pub returns : goal.returns
returns c =
    let a = c.args in
    line_put a.text.now a.at a.address (type_of a.kind) a.bytes.now _ _ c.requires.room (headed (length a.bytes.now) a.address c.head-head.ensures) c.sum_byte-sum.ensures c.put_pairs-data.ensures c.put_pairs-tail.ensures c.put_pairs-end.ensures

pub overflow_add-result : goal.overflow_add-result
overflow_add-result c =
    let a = c.args in
    let room : c.put_pairs-end.result < length c.put_pairs-end.new.text =
    feed_room a.text.now a.at a.address (type_of a.kind) a.bytes.now _ _ c.requires.room (headed (length a.bytes.now) a.address c.head-head.ensures) c.sum_byte-sum.ensures c.put_pairs-data.ensures c.put_pairs-tail.ensures c.put_pairs-end.ensures in
    omega (arith, c.put_pairs-end.ensures.long, c.put_pairs-tail.ensures.long, c.put_pairs-data.ensures.long, length-set a.text.now a.at 58)
