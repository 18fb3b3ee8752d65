use mathlib.Core.Path.{◌≡◌, refl, sym, ap, ◌∙◌, subst}
use mathlib.Core.Bool.{true}
use Prim.Native.Nat.{ℕ, suc, ◌+◌}
use native.Mathlib.Omega.{arith}
use Rattle.std.specs.Prelude.{Option}
use Rattle.model.specs.Bytes.{Bytes}
use Rattle.model.specs.Scan.{Report, codewords_in}
use Rattle.model.specs.Mend.{fix_all}
use Rattle.scan.specs.Answers.{as_scan}
use Rattle.scan.specs.Runs.{visits_at}
use Rattle.scan.specs.Tally.{reported, together, or_zeros, Bounded}
use Rattle.scan.proofs.TallyLaw.{together_words, bounded_given}
use Rattle.correcting.specs.Correct.{met}
use Rattle.mending.proofs.MetLaw.{all_fixes}
use Rattle.mending.proofs.MendingLaw.{fixed_to, reported_to, none_fixed, none_reported, reported_bounded, fixed_next, report_next, all_fixed, report_all}
use Rattle.mending.proofs.words.mend_words.Goals as goal

pub loop-i-init : goal.loop-i-init
loop-i-init c =
    let x = c.args.bytes.now in
    (refl, omega arith, sym (none_fixed x), sym (none_reported x))

pub together-total-requires : goal.together-total-requires
together-total-requires c =
    let l = c.loop-i in
    let f = c.correct_region-found.ensures in (
      record {
        words = omega (arith, l.invariant.1, f.few);
        counts = subst (λ (o : Option Report). Bounded (or_zeros o)) (sym l.invariant.3) (reported_bounded c.args.bytes.now l.i);
      },
      subst (λ (o : Option Report). Bounded (or_zeros o)) (sym f.tells) (bounded_given _ _),
    )

pub loop-i-preserved : goal.loop-i-preserved
loop-i-preserved c =
    let f = c.correct_region-found in
    let l = c.loop-i in
    let x = c.args.bytes.now in
    let y = l.bytes in
    let bs : Bytes x = record { small = λ p. omega (arith, (c.slice_known-1.given p).fits) } in
    let e : suc l.i ≡ l.i + 1 = omega arith in (
      omega (arith, f.auto.bytes),
      omega (arith, ap (λ (o : Option Report). (or_zeros o).words) c.together-total.ensures, together_words (as_scan l.total) (as_scan f.result), l.invariant.1, f.ensures.few),
      f.ensures.leaves ∙ all_fixes (codewords_in (visits_at c.args.header.region_count y l.i)) y ∙ ap (λ (m : ℕ). fix_all (codewords_in (visits_at m y l.i)) y) c.requires.regions
          ∙ fixed_next x c.requires.accepted bs l.i y l.invariant.2 ∙ ap (fixed_to x) e,
      c.together-total.ensures ∙ ap (together (as_scan l.total)) (f.ensures.tells ∙ ap (λ (m : ℕ). reported (visits_at m y l.i) (met true y (codewords_in (visits_at m y l.i)))) c.requires.regions)
          ∙ report_next x c.requires.accepted bs l.i y (as_scan l.total) l.invariant.2 l.invariant.3 ∙ ap (reported_to x) e,
    )

pub returns : goal.returns
returns c =
    let l = c.loop-i in
    let x = c.args.bytes.now in
    let bs : Bytes x = record { small = λ p. omega (arith, (c.slice_known-1.given p).fits) } in
    record { leaves = l.invariant.2 ∙ all_fixed x l.i (omega (arith, c.requires.regions)); tells = l.invariant.3 ∙ report_all x c.requires.accepted bs l.i (omega (arith, c.requires.regions)) }

pub shape_of-bytes : goal.shape_of-bytes
shape_of-bytes c = omega arith
