-- No two answers fit one promise, nor two images that are left. (`as_found` and `as_outcome` tell every two answers apart.) Assumes nothing.
use mathlib.Core.Path.{◌≡◌, refl, ap}
use mathlib.Core.List.{List}
use Prim.Native.Nat.{ℕ}
use Rattle.model.proofs.OneAnswer.{OneAnswer, OneAnswerAnd, agree}
use Rattle.error.specs.Refused.{as_verdict}
use Rattle.error.proofs.OneAnswer.{one_refusal}
use Rattle.scan.specs.Answers.{as_scan}
use Rattle.scan.proofs.OneAnswer.{one_scan}
use Rattle.mending.specs.Answers.{as_mending}
use Rattle.mending.proofs.OneAnswer.{one_mending}
use Rattle.findings.specs.Answers.{as_found, as_outcome}
use Rattle.findings.specs.declared.Findings.{Findings}
use Rattle.std.specs.Prelude.{Result, Ok, Err}
use Rattle.mending.specs.declared.Mending.{Mending}
use Rattle.findings.specs.declared.Rejected.{Rejected}
use Rattle.findings.specs.declared.Rejected.TheVariants.{TooLong, Refused}
use Rattle.findings.proofs.look.Reads as look
use Rattle.findings.proofs.mend_within.Reads as mend-within
use Rattle.findings.proofs.uncorrectable_in.Reads as uncorrectable-in

one_finding : (f g : Findings) → as_found (Ok f) ≡ as_found (Ok g) → f ≡ g
one_finding f g e =
    let s : as_scan f.report ≡ as_scan g.report = cc in
    let r : f.report ≡ g.report = one_scan f.report g.report s in
    let n : f.regions ≡ g.regions = cc in
    let b : f.needs_scrub ≡ g.needs_scrub = cc in
    rw (n, b, r) refl

pub one_found : (a b : Result Findings Rejected) → as_found a ≡ as_found b → a ≡ b
one_found (Err TooLong) (Err TooLong) e = refl
one_found (Err TooLong) (Err (Refused q)) e = cc
one_found (Err TooLong) (Ok g) e = cc
one_found (Err (Refused r)) (Err TooLong) e = cc
one_found (Err (Refused r)) (Err (Refused q)) e = let v : as_verdict r ≡ as_verdict q = cc in ap (λ r. Err (Refused r)) (one_refusal r q v)
one_found (Err (Refused r)) (Ok g) e = cc
one_found (Ok f) (Err TooLong) e = cc
one_found (Ok f) (Err (Refused q)) e = cc
one_found (Ok f) (Ok g) e = ap Ok (one_finding f g e)

pub one_outcome : (a b : Result Mending Rejected) (x y : List ℕ) → as_outcome a x ≡ as_outcome b y → a ≡ b
one_outcome (Err TooLong) (Err TooLong) x y e = refl
one_outcome (Err TooLong) (Err (Refused q)) x y e = cc
one_outcome (Err TooLong) (Ok n) x y e = cc
one_outcome (Err (Refused r)) (Err TooLong) x y e = cc
one_outcome (Err (Refused r)) (Err (Refused q)) x y e = let v : as_verdict r ≡ as_verdict q = cc in ap (λ r. Err (Refused r)) (one_refusal r q v)
one_outcome (Err (Refused r)) (Ok n) x y e = cc
one_outcome (Ok m) (Err TooLong) x y e = cc
one_outcome (Ok m) (Err (Refused q)) x y e = cc
one_outcome (Ok m) (Ok n) x y e = let f : as_mending m x ≡ as_mending n y = cc in ap Ok (one_mending m n x y f)

-- ---- no two answers of a function fit its promise

pub one_answer_look : OneAnswer look.Learnt
one_answer_look κs a r r' s s' p q = one_found r r' (agree p q)

pub one_answer_mend_within : OneAnswerAnd mend-within.Learnt (λ κs s. s.0.now)
one_answer_mend_within κs a r r' s s' p q = (one_outcome r r' s.0.now s'.0.now (agree p.0 q.0), agree p.1 q.1)

pub one_answer_uncorrectable_in : OneAnswer uncorrectable-in.Learnt
one_answer_uncorrectable_in κs a r r' s s' p q = agree p q
