use mathlib.Core.Path.{◌≡◌, refl, sym, ap, ◌∙◌, subst}
use Prim.Native.Nat.{ℕ, suc, ◌+◌, ◌-◌}
use native.Mathlib.Omega.{arith}
use Rattle.model.specs.Scan.{Report, codewords_from, report}
use Rattle.model.specs.Steps.{plus, no_report}
use Rattle.model.proofs.ScanLaw.{none_plus}
use Rattle.model.specs.Bytes.{at, word_at}
use Rattle.model.specs.Parity.{outcome}
use Rattle.ecc.specs.Answers.{as_report}
use Rattle.scan.specs.Tally.{Room}
use Rattle.scan.proofs.TallyLaw.{room_next, bounded_none}
use Rattle.correcting.specs.Correct.{correct_all, met}
use Rattle.correcting.proofs.CorrectLaw.{correct_next, correct_done, met_next, met_done}
use Rattle.correcting.proofs.correct_run.Goals as goal

pub loop-k-init : goal.loop-k-init
loop-k-init c =
    let g = c.args in
    let r = g.run in
    let d = c.default-report.ensures in
    let n : r.words - 0 ≡ r.words = omega arith in
    let w : r.word + 0 ≡ r.word = omega arith in
    let k : r.check + 0 ≡ r.check = omega arith in
    let z : as_report c.default-report.result ≡ no_report = rw (d.0, d.1.0, d.1.1) refl in (
      refl,
      subst (Room (r.words - 0)) (sym z) (record { words = omega (arith, c.requires.words); counts = bounded_none }),
      rw (n, w, k),
      ap (λ (t : Report). plus t (report (met g.with_check g.bytes.now (codewords_from (r.words - 0) (r.word + 0) (r.check + 0))))) z
          ∙ rw (n, w, k) (none_plus (report (met g.with_check g.bytes.now (codewords_from r.words r.word r.check)))),
    )

pub overflow_add-word : goal.overflow_add-word
overflow_add-word c = omega (arith, c.requires.words)

pub overflow_add-check : goal.overflow_add-check
overflow_add-check c = omega (arith, c.requires.checks)

pub correct_word-report-requires : goal.correct_word-report-requires
correct_word-report-requires c =
    let r = c.loop-k.invariant.1 in
    (omega (arith, c.requires.words), omega (arith, c.requires.checks), record { words = omega (arith, r.words); counts = r.counts })

pub loop-k-preserved : goal.loop-k-preserved
loop-k-preserved c =
    let g = c.args in
    let r = g.run in
    let b = g.with_check in
    let k = c.loop-k.k in
    let x = c.loop-k.bytes in
    let w = c.correct_word-report in
    let y = w.new.bytes in
    let t = as_report c.loop-k.report in
    let o = outcome (word_at x (r.word + k)) (at x (r.check + k)) in
    let n : r.words - k ≡ suc (r.words - (k + 1)) = omega arith in (
      omega (arith, c.loop-k.invariant.0, w.auto.bytes),
      subst (Room (r.words - (k + 1))) (sym w.ensures.is)
          (room_next t (r.words - (k + 1)) o (subst (λ (m : ℕ). Room m t) n c.loop-k.invariant.1)),
      ap (correct_all b (codewords_from (r.words - (k + 1)) (r.word + (k + 1)) (r.check + (k + 1)))) w.ensures.stores
          ∙ sym (correct_next b r.words r.word r.check k x (omega arith)) ∙ c.loop-k.invariant.2,
      ap (λ (z : Report). plus z (report (met b y (codewords_from (r.words - (k + 1)) (r.word + (k + 1)) (r.check + (k + 1)))))) w.ensures.is
          ∙ met_next b r.words r.word r.check k x t y o (omega arith) refl w.ensures.stores ∙ c.loop-k.invariant.3,
    )

pub returns : goal.returns
returns c =
    let g = c.args in
    let r = g.run in
    let l = c.loop-k in
    record {
      leaves = sym (correct_done g.with_check r.words r.word r.check l.k l.bytes (omega arith)) ∙ l.invariant.2;
      tells = sym (met_done g.with_check r.words r.word r.check l.k l.bytes (as_report l.report) (omega arith)) ∙ l.invariant.3;
    }
