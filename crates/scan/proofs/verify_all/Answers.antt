use mathlib.Core.Path.{◌≡◌, sym, ap, ap₂, ◌∙◌, subst}
use Prim.Native.Nat.{suc, ◌+◌}
use native.Mathlib.Omega.{arith}
use Rattle.std.specs.Prelude.{Option}
use Rattle.model.specs.Scan.{Report}
use Rattle.model.specs.Views.{region_at}
use Rattle.scan.specs.Answers.{as_scan}
use Rattle.scan.specs.Tally.{together, or_zeros, Bounded}
use Rattle.scan.proofs.TallyLaw.{together_words}
use Rattle.scan.proofs.VisitLaw.{scanned_to, none_scanned, scanned_next, scanned_all, scanned_bounded, bounded_scan}
use Rattle.scan.proofs.verify_all.Goals as goal

pub loop-i-init : goal.loop-i-init
loop-i-init c = (sym (none_scanned c.args.bytes.now c.args.header.region_count), omega arith)

pub together-total-requires : goal.together-total-requires
together-total-requires c =
    let l = c.loop-i in
    let f = c.scan_entry-found.ensures in
    let b : Bounded (or_zeros (as_scan l.total)) = subst (λ (o : Option Report). Bounded (or_zeros o)) (sym l.invariant.0) (scanned_bounded c.args.bytes.now c.args.header.region_count l.i) in (
      record { words = omega (arith, l.invariant.1, f.few); counts = b },
      subst (λ (o : Option Report). Bounded (or_zeros o)) (sym f.is) (bounded_scan c.args.bytes.now _),
    )

pub loop-i-preserved : goal.loop-i-preserved
unfolding region_at
loop-i-preserved c =
    let l = c.loop-i in
    let f = c.scan_entry-found in
    let x = c.args.bytes.now in
    let n = c.args.header.region_count in
    let e : suc l.i ≡ l.i + 1 = omega arith in (
      c.together-total.ensures ∙ ap₂ together l.invariant.0 f.ensures.is ∙ scanned_next x n l.i ∙ ap (scanned_to x n) e,
      omega (arith, ap (λ (o : Option Report). (or_zeros o).words) c.together-total.ensures, together_words (as_scan l.total) (as_scan f.result), l.invariant.1, f.ensures.few),
    )

pub returns : goal.returns
returns c =
    let l = c.loop-i in
    l.invariant.0 ∙ scanned_all c.args.bytes.now c.args.header.region_count l.i (omega arith)
