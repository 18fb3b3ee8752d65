use mathlib.Core.Path.{sym, ap, ap₂, ◌∙◌}
use mathlib.Core.Bool.{Bool}
use mathlib.Core.List.{List}
use native.Mathlib.Omega.{arith}
use Rattle.std.specs.Prelude.{Some}
use Rattle.model.specs.Bytes.{given}
use Rattle.model.specs.Scan.{Codeword, codewords_in, Report, report}
use Rattle.scan.specs.Runs.{visits_at, codewords_of}
use Rattle.scan.specs.Answers.{as_scan}
use Rattle.scan.proofs.RunLaw.{run_length}
use Rattle.correcting.specs.Correct.{correct_all, met}
use Rattle.correcting.proofs.CorrectLaw.{none_there, none_corrected, met_words}
use Rattle.correcting.proofs.correct_region.Goals as goal

-- `correcting::correct_region` meets its contract. Assumes nothing.
pub returns-in_err-run : goal.returns-in_err-run
returns-in_err-run c =
    let g = c.args in
    let x = g.bytes.now in
    let vs = visits_at g.header.region_count x g.i in
    let e = none_there vs c.in_err-run.ensures in
    let s = ap as_scan c.from_residual.ensures in
    record {
      leaves = none_corrected g.with_check x (codewords_in vs) e.1;
      tells = s ∙ sym (rw e.0);
      few = rw s (omega arith);
    }

pub correct_run-requires : goal.correct_run-requires
correct_run-requires c = c.in_ok-run.ensures.fits

pub returns : goal.returns
returns c =
    let g = c.args in
    let x = g.bytes.now in
    let b = g.with_check in
    let k = c.in_ok-run.ensures in
    let w = c.correct_run.ensures in
    let ks = met b x (codewords_of c.in_ok-run.run') in
    record {
      leaves = w.leaves ∙ ap (λ (ps : List Codeword). correct_all b ps x) k.codewords;
      tells = ap Some w.tells ∙ ap₂ (λ (t : Bool) (ps : List Codeword). given t (report (met b x ps))) (sym k.visits) k.codewords;
      few = omega (arith, ap (λ (q : Report). q.words) w.tells, met_words b x (codewords_of c.in_ok-run.run'), run_length c.in_ok-run.run', k.few);
    }
