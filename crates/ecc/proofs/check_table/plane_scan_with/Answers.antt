use mathlib.Core.Path.{◌≡◌, sym, ap, ◌∙◌, subst}
use Prim.Native.Nat.{ℕ, ◌<◌}
use native.Mathlib.Omega.{arith}
use Rattle.model.specs.Parity.{class_of}
use Rattle.model.specs.Scan.{is_corrected, is_uncorrectable, slice_words}
use Rattle.model.proofs.ParityLaw.{class_zero}
use Rattle.ecc.proofs.PlaneLaw.{syndrome_read, Counted, turn, scanned}
use Rattle.ecc.proofs.check_table.plane_scan_with.Goals as goal
use Rattle.ecc.proofs.check_table.plane_scan_with.Goals.{then-syndrome-ne0, else-syndrome-ne0}

pub loop-w-preserved : goal.loop-w-preserved
loop-w-preserved c =
    let a = c.args in
    let table = a.table.now in
    let x = a.«data».now in
    let y = a.parity.now in
    let w = c.loop-w.w in
    let v = c.u64_or_zero-word.result in
    let h : w < slice_words x y = omega (arith, c.plane_words-words.ensures.0) in
    let d = syndrome_read x y w v (omega arith) c.u64_or_zero-word.ensures table c.check_byte_with.ensures in
    elim c.if-syndrome-ne0.branch [
      | then-syndrome-ne0 t ↦ let o = t.one_if_corrected-one in (
        omega (arith, t.corrected-is, o.ensures.2),
        omega (arith, t.uncorrectable-is),
        turn table x y is_corrected w c.loop-w.corrected c.if-syndrome-ne0.corrected h (omega (arith, t.corrected-is, o.ensures.0, ap is_corrected d)) c.loop-w.invariant.2,
        turn table x y is_uncorrectable w c.loop-w.uncorrectable c.if-syndrome-ne0.uncorrectable h (omega (arith, t.uncorrectable-is, o.ensures.1, ap is_uncorrectable d)) c.loop-w.invariant.3,
      )
      | else-syndrome-ne0 t ↦ let z = sym d ∙ ap class_of t.if-syndrome-ne0.false ∙ class_zero in (
        omega arith,
        omega arith,
        turn table x y is_corrected w c.loop-w.corrected c.if-syndrome-ne0.corrected h (omega (arith, t.corrected-is, ap is_corrected z)) c.loop-w.invariant.2,
        turn table x y is_uncorrectable w c.loop-w.uncorrectable c.if-syndrome-ne0.uncorrectable h (omega (arith, t.uncorrectable-is, ap is_uncorrectable z)) c.loop-w.invariant.3,
      )
    ]

pub returns : goal.returns
returns c =
    let a = c.args in
    let table = a.table.now in
    let x = a.«data».now in
    let y = a.parity.now in
    let e : c.loop-w.w ≡ c.plane_words-words.result = omega arith in
    scanned table x y c.plane_words-words.result c.loop-w.corrected c.loop-w.uncorrectable c.plane_words-words.ensures.0
    (subst (λ (w : ℕ). Counted is_corrected table x y w c.loop-w.corrected) e c.loop-w.invariant.2)
    (subst (λ (w : ℕ). Counted is_uncorrectable table x y w c.loop-w.uncorrectable) e c.loop-w.invariant.3)

pub one_if_corrected-one-requires : goal.one_if_corrected-one-requires
one_if_corrected-one-requires c = c.if-syndrome-ne0.true
