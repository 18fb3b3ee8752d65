use Rattle.std.proofs.Common.{ap, ◌∙◌, arith}
use Rattle.std.specs.Slice.Iter.{chunks_exact_rest, chunks_exact_size}
use Rattle.std.specs.Iterator.Adapters.{enumerate_source, enumerate_count}
use Rattle.model.specs.Parity.{check_of}
use Rattle.scalar.proofs.OrZero.{or_zero_in}
use Rattle.put.proofs.PutLaw.{kept_length}
use Rattle.writer.proofs.ChecksLaw.{none_checked, check_room, check_put, all_checked}
use Rattle.writer.proofs.planes.put_checks.Goals as goal

pub loop-i-init : goal.loop-i-init
loop-i-init c =
    let e = c.into_iter-i-iterator.ensures.into_iter_gives in
    let s = ap enumerate_source e ∙ c.enumerate-i-items.ensures.source in
    none_checked _ _ _ c.requires (omega (arith, ap enumerate_count e, c.enumerate-i-items.ensures.count)) (ap chunks_exact_size s ∙ c.chunks_exact.ensures.size) (ap chunks_exact_rest s ∙ c.chunks_exact.ensures.rest)

pub bounds-out-at : goal.bounds-out-at
bounds-out-at c = let t = c.in-Some.ensures.steps in omega (arith, t.1, check_room c.loop-i.invariant _ _ t.0.1.0 t.0.1.1)

pub loop-i-preserved : goal.loop-i-preserved
loop-i-preserved c =
    let t = c.in-Some.ensures.steps in
    check_put c.loop-i.invariant _ _ t.0.1.0 t.0.1.1 (c.check_byte.ensures ∙ ap check_of (c.u64_or_zero.ensures ∙ or_zero_in 8 c.in-Some.word.now 0 (omega (arith, t.0.1.1, c.loop-i.invariant.eight)))) t.0.0 (omega (arith, t.1)) (omega (arith, t.2))

pub shape_of-out : goal.shape_of-out
shape_of-out c = kept_length _ _ _ c.loop-i.invariant.going

pub returns : goal.returns
returns c = all_checked c.loop-i.invariant c.in-None.ensures.steps.0.1.0 (omega arith)
