use Rattle.std.proofs.Common.{ap, ◌∙◌, arith}
use Rattle.std.specs.Slice.Iter.{chunks_rest, chunks_size}
use Rattle.std.specs.Iterator.Adapters.{enumerate_source, enumerate_count}
use Rattle.intel_hex.proofs.WritingLaw.{none_written, first_line, at_line, next_line, inside, before_upper, before_line, short, after_line, before_end, after_end}
use Rattle.intel_hex.proofs.writing.put_text.Goals as goal

pub loop-i-init : goal.loop-i-init
loop-i-init c =
    let e = c.into_iter-i-iterator.ensures.into_iter_gives in
    let s = ap enumerate_source e ∙ c.enumerate-i-items.ensures.source in
    first_line (omega (arith, ap enumerate_count e, c.enumerate-i-items.ensures.count)) (record {
      sixteen = ap chunks_size s ∙ c.chunks.ensures.size;
      is_left = ap chunks_rest s ∙ c.chunks.ensures.rest;
      written = none_written _ _ c.requires.room;
    })

pub put_upper-data-requires : goal.put_upper-data-requires
put_upper-data-requires c =
    let s = c.in-Some.ensures.steps in
    let t = s.0.1 in
    let g = at_line s.1 c.loop-i.invariant in
    record { room = before_upper g _ _ t.0 t.1 t.2; low = omega (arith, inside g _ _ t.0 t.1 t.2, c.requires.small) }

pub put_record-next-requires : goal.put_record-next-requires
put_record-next-requires c =
    let s = c.in-Some.ensures.steps in
    let t = s.0.1 in
    let g = at_line s.1 c.loop-i.invariant in
    record { room = before_line g _ _ t.0 t.1 t.2 c.put_upper-data.ensures; short = short g _ _ t.0 t.1 t.2 }

pub loop-i-preserved : goal.loop-i-preserved
loop-i-preserved c =
    let s = c.in-Some.ensures.steps in
    let t = s.0.1 in
    next_line _ (omega (arith, s.1, s.2)) (after_line (at_line s.1 c.loop-i.invariant) _ _ t.0 t.1 t.2 c.put_upper-data.ensures c.put_record-next.ensures s.0.0)

pub put_record-requires : goal.put_record-requires
put_record-requires c = record { room = omega (arith, before_end c.loop-i.invariant c.in-None.ensures.steps.0.1.0); short = omega arith }

pub returns : goal.returns
returns c = after_end c.loop-i.invariant c.in-None.ensures.steps.0.1.0 c.put_record.ensures
