-- No two answers fit one promise. (`as_scan` tells every two apart.) Assumes nothing.
use mathlib.Core.Path.{◌≡◌, refl, sym, ap, ◌∙◌}
use Rattle.std.specs.Prelude.{Option, None, Some}
use Rattle.model.specs.Scan.{Visit}
use mathlib.Core.List.{List}
use Prim.Native.Nat.{ℕ}
use Rattle.model.proofs.OneAnswer.{OneAnswer, agree}
use Rattle.ecc.specs.declared.EccReport.{EccReport}
use Rattle.ecc.specs.Answers.{as_report}
use Rattle.ecc.proofs.OneAnswer.{one_report}
use Rattle.scan.specs.declared.runs.ProtectedRun.{ProtectedRun}
use Rattle.scan.specs.Answers.{as_scan}
use Rattle.scan.specs.Runs.{first_run, IsRun}
use Rattle.scan.proofs.verify_region.Reads as verify-region
use Rattle.scan.proofs.verify_all.Reads as verify-all
use Rattle.scan.proofs.runs.protected_run_at.Reads as protected-run-at
use Rattle.scan.proofs.tally.together.Reads as together
use Rattle.scan.proofs.tally.visit.Reads as visit
use Rattle.scan.proofs.tally.count_word.Reads as count-word

pub one_scan : (a b : Option EccReport) → as_scan a ≡ as_scan b → a ≡ b
one_scan (Some r) (Some q) e = let f : as_report r ≡ as_report q = cc in ap Some (one_report r q f)
one_scan (Some r) None e = cc
one_scan None (Some q) e = cc
one_scan None None e = refl

run_is : (x : List ℕ) (vs : List Visit) (o : Option ProtectedRun) → IsRun x vs o → o ≡ first_run vs
run_is x vs None e = sym (ap first_run e)
run_is x vs (Some r) k = k.is

-- ---- no two answers of a function fit its promise

pub one_answer_verify_region : OneAnswer verify-region.Learnt
one_answer_verify_region κs a r r' s s' p q = one_scan r r' (agree p q)

pub one_answer_verify_all : OneAnswer verify-all.Learnt
one_answer_verify_all κs a r r' s s' p q = one_scan r r' (agree p q)

pub one_answer_protected_run_at : OneAnswer protected-run-at.Learnt
one_answer_protected_run_at κs a r r' s s' p q = run_is _ _ r p ∙ sym (run_is _ _ r' q)

pub one_answer_visit : OneAnswer visit.Learnt
one_answer_visit κs a r r' s s' p q = one_scan r r' (agree p q)

pub one_answer_together : OneAnswer together.Learnt
one_answer_together κs a r r' s s' p q = one_scan r r' (agree p q)

pub one_answer_count_word : OneAnswer count-word.Learnt
one_answer_count_word κs a r r' s s' p q = one_report r r' (agree p q)
