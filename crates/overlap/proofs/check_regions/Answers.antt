use mathlib.Core.Path.{◌≡◌, refl, sym, ap, ◌∙◌, subst}
use Prim.Native.Nat.{ℕ, suc, ◌+◌, max}
use native.Mathlib.Omega.{arith}
use lib.ListN.{length, length-set, length-replicate}
use Rattle.model.specs.Views.{entries_for}
use Rattle.view.specs.Answers.{as_header}
use Rattle.error.proofs.PassedOn.{err_is}
use Rattle.overlap.specs.Answers.{as_placement}
use Rattle.overlap.specs.Spans.{Holds}
use Rattle.overlap.proofs.ApartLaw.{left_from, left_start, left_gone, left_on, left_next, left_done}
use Rattle.overlap.proofs.SpanLaw.{spans_next}
use Rattle.overlap.proofs.check_regions.Goals as goal

pub loop-i-init : goal.loop-i-init
loop-i-init c =
    let e = c.empty-spans.ensures in
    (ap length e.0 ∙ length-replicate {A = ℕ} 1024 0, ap length e.1 ∙ length-replicate {A = ℕ} 1024 0, refl, record { each = λ j h. absurd (omega arith) })

pub returns-in_default : goal.returns-in_default
returns-in_default c =
    let r = c.region_at in
    let l = c.loop-i in
    let g = c.args in
    let h = as_header g.header in
    let x = g.bytes.now in
    sym (left_gone h x l.i r.result r.ensures c.in_default.is) ∙ l.invariant.2 ∙ left_start h (entries_for h.regions x)

pub returns-in_err-check_entry : goal.returns-in_err-check_entry
returns-in_err-check_entry c =
    let o = c.check_entry in
    let r = c.region_at in
    let l = c.loop-i in
    let g = c.args in
    let h = as_header g.header in
    let x = g.bytes.now in
    let es = entries_for h.regions x in
    let m = c.in_err-check_entry.field-0.0 in
    ap as_placement (err_is _ m c.from_residual.ensures.1)
    ∙ sym (left_on h x l.i r.result r.ensures c.in-Some.region c.in-Some.is o.result (o.ensures es l.invariant.3) m c.in_err-check_entry.was) ∙ l.invariant.2 ∙ left_start h es

pub loop-i-preserved : goal.loop-i-preserved
loop-i-preserved c =
    let w = c.last_word in
    let o = c.check_entry in
    let r = c.region_at in
    let l = c.loop-i in
    let g = c.args in
    let h = as_header g.header in
    let x = g.bytes.now in
    let es = entries_for h.regions x in
    let p = c.in-Some.region in
    let n = c.note.ensures in
    let e : suc l.i ≡ l.i + 1 = omega arith in (
      ap length n.0 ∙ length-set l.spans.first l.i p.word_offset ∙ l.invariant.0,
      ap length n.1 ∙ length-set l.spans.last l.i w.result ∙ l.invariant.1,
      ap (left_from h es) (sym e) ∙ sym (left_next h x l.i r.result r.ensures p c.in-Some.is o.result (o.ensures es l.invariant.3) c.in_ok-check_entry.was) ∙ l.invariant.2,
      subst (λ (k : ℕ). Holds es k c.note.new.self c.max-high.result) e
          (spans_next es l.spans l.i l.high l.invariant.3 (omega (arith, l.invariant.0)) (omega (arith, l.invariant.1)) h.regions x refl r.result r.ensures p c.in-Some.is
          c.end_word.ensures.1 c.note.new.self w.result n.0 n.1 w.ensures
          c.max-high.result (c.max-high.ensures ∙ ap (λ (m : ℕ). max m l.high) c.end_word.ensures.0)),
    )

pub returns : goal.returns
returns c =
    let l = c.loop-i in
    let g = c.args in
    let h = as_header g.header in
    let x = g.bytes.now in
    sym (left_done h x l.i (omega arith)) ∙ l.invariant.2 ∙ left_start h (entries_for h.regions x)
