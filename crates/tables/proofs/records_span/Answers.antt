use mathlib.Core.Path.{sym, ap, ◌∙◌}
use Prim.Native.Nat.{ℕ, ◌*◌, ◌%◌}
use native.Mathlib.Omega.{arith}
use borrow.Author.Tests.{eq-eqb, ne_eqb, lt-ltb, le-ltb}
use Rattle.model.specs.Layout.{end}
use Rattle.model.specs.Views.{table_span, table_verdict}
use Rattle.layout.specs.Regions.{as_entry}
use Rattle.tables.proofs.records_span.Goals as goal

-- `tables::records_span` meets its contract: the checks in their order. Assumes nothing.
pub returns-then-stride-eq0 : goal.returns-then-stride-eq0
unfolding table_span table_verdict
returns-then-stride-eq0 c = rw (eq-eqb c.args.stride 0 c.if-stride-eq0.true)

pub returns-then-stride-ne0 : goal.returns-then-stride-ne0
unfolding table_span table_verdict
returns-then-stride-ne0 c = let g = c.args in rw (ne_eqb g.stride 0 c.if-stride-eq0.false, ne_eqb (g.stride % 8) 0 c.if-stride-ne0.true)

pub returns-then-len-end : goal.returns-then-len-end
unfolding table_span table_verdict
returns-then-len-end c =
    let g = c.args in
    rw (ne_eqb g.stride 0 c.if-stride-eq0.false, eq-eqb (g.stride % 8) 0 c.if-stride-ne0.false, lt-ltb g.len (end (as_entry g.region)) (omega (arith, c.byte_end-end.ensures, c.if-len-end.true)))

pub returns-then-byte_length-stride-ne0 : goal.returns-then-byte_length-stride-ne0
unfolding table_span table_verdict
returns-then-byte_length-stride-ne0 c =
    let g = c.args in
    rw (ne_eqb g.stride 0 c.if-stride-eq0.false, eq-eqb (g.stride % 8) 0 c.if-stride-ne0.false, le-ltb g.len (end (as_entry g.region)) (omega (arith, c.byte_end-end.ensures, c.if-len-end.false)), ne_eqb (8 * g.region.word_length % g.stride) 0 (λ q. c.if-byte_length-stride-ne0.true (ap (λ (n : ℕ). n % g.stride) c.byte_length.ensures ∙ q)))

pub returns : goal.returns
unfolding table_span table_verdict
returns c =
    let g = c.args in
    rw (c.byte_end-end.ensures, c.byte_offset.ensures, ne_eqb g.stride 0 c.if-stride-eq0.false, eq-eqb (g.stride % 8) 0 c.if-stride-ne0.false, le-ltb g.len (end (as_entry g.region)) (omega (arith, c.byte_end-end.ensures, c.if-len-end.false)), eq-eqb (8 * g.region.word_length % g.stride) 0 (ap (λ (n : ℕ). n % g.stride) (sym c.byte_length.ensures) ∙ c.if-byte_length-stride-ne0.false))
