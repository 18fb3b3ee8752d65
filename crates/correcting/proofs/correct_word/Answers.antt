use mathlib.Core.Path.{ap, ◌∙◌}
use Prim.Native.Nat.{◌*◌}
use native.Mathlib.Omega.{arith}
use Rattle.model.specs.Parity.{Outcome}
use Rattle.model.specs.Steps.{plus}
use Rattle.ecc.specs.Answers.{as_report}
use Rattle.scan.specs.Tally.{report_on}
use Rattle.scan.proofs.WordLaw.{matched_clean}
use Rattle.correcting.proofs.CorrectLaw.{kept_clean, read_part}
use Rattle.correcting.proofs.correct_word.Goals as goal

-- `correcting::correct_word` meets its contract. Assumes nothing.
pub returns-then-expected-found : goal.returns-then-expected-found
returns-then-expected-found c =
    let k = c.check_byte-expected in
    let u = c.u64_or_zero-data in
    let g = c.args in
    let d = read_part g.bytes.now (8 * g.word) u.result (omega (arith, c.requires.0)) u.ensures in
    let e = matched_clean g.bytes.now g.word g.check u.result c.requires.0 d k.result k.ensures c.if-expected-found.true in
    record {
      is = c.count_word.ensures ∙ ap (λ (o : Outcome). plus (as_report g.report) (report_on o)) e;
      stores = kept_clean g.with_check g.bytes.now (record { word = g.word; check = g.check }) u.result e;
    }

pub returns : goal.returns
returns c =
    let w = c.repair_word-status in
    record {
      is = c.count_word-2.ensures ∙ ap (λ (o : Outcome). plus (as_report c.args.report) (report_on o)) w.ensures.is;
      stores = w.ensures.stores;
    }
