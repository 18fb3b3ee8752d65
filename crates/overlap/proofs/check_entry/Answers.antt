use mathlib.Core.Path.{ap, ◌∙◌}
use Rattle.std.specs.Prelude.{None, Some}
use Prim.Native.Nat.{ℕ}
use native.Mathlib.Omega.{arith}
use lib.ListN.{take}
use Rattle.layout.specs.Regions.{as_entry}
use Rattle.overlap.specs.Spans.{overlaps_from}
use Rattle.overlap.proofs.ApartLaw.{lies_empty, lies_inside}
use Rattle.overlap.proofs.SpanLaw.{lies_past, lies_there, is_none}
use Rattle.overlap.proofs.check_entry.Goals as goal

-- `overlap::check_entry` meets its contract. Assumes nothing.
pub returns-then-region-eq0 : goal.returns-then-region-eq0
returns-then-region-eq0 c = let g = c.args in λ es s. lies_empty g.n (as_entry g.region) (take g.i es) g.i (omega arith)

pub returns-then-byte_offset-header_length : goal.returns-then-byte_offset-header_length
returns-then-byte_offset-header_length c =
    let l = c.header_length.ensures in
    let o = c.byte_offset.ensures in
    let g = c.args in
    λ es s. lies_inside g.n (as_entry g.region) (take g.i es) g.i (omega arith) (omega arith)

pub returns-then-high-region : goal.returns-then-high-region
returns-then-high-region c =
    let l = c.header_length.ensures in
    let o = c.byte_offset.ensures in
    let g = c.args in
    λ es s. lies_past g.n (as_entry g.region) es g.spans.now g.i g.high s (omega arith) (omega arith)

pub returns-then-not-meet : goal.returns-then-not-meet
returns-then-not-meet c =
    let a = c.meet in
    let w = c.last_word-last in
    let t = c.args.spans.now in
    let l = c.header_length.ensures in
    let o = c.byte_offset.ensures in
    let g = c.args in
    λ es s.
    lies_there g.n (as_entry g.region) es t g.i g.high s (omega arith) (omega arith) (omega arith) None
    (is_none (overlaps_from g.region.word_offset w.result t.first t.last 0 g.i) a.result c.if-not-meet.true a.ensures ∙ ap (λ (m : ℕ). overlaps_from g.region.word_offset m t.first t.last 0 g.i) w.ensures)

pub returns-in-Some : goal.returns-in-Some
returns-in-Some c =
    let w = c.last_word-last in
    let t = c.args.spans.now in
    let l = c.header_length.ensures in
    let o = c.byte_offset.ensures in
    let g = c.args in
    λ es s.
    lies_there g.n (as_entry g.region) es t g.i g.high s (omega arith) (omega arith) (omega arith) (Some c.in-Some.earlier)
    (c.in-Some.ensures ∙ ap (λ (m : ℕ). overlaps_from g.region.word_offset m t.first t.last 0 g.i) w.ensures)

pub returns-in-None : goal.returns-in-None
returns-in-None c =
    let w = c.last_word-last in
    let t = c.args.spans.now in
    let l = c.header_length.ensures in
    let o = c.byte_offset.ensures in
    let g = c.args in
    λ es s.
    lies_there g.n (as_entry g.region) es t g.i g.high s (omega arith) (omega arith) (omega arith) None
    (c.in-None.ensures ∙ ap (λ (m : ℕ). overlaps_from g.region.word_offset m t.first t.last 0 g.i) w.ensures)
