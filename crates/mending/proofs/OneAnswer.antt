-- No two answers fit one promise, nor two images that are left. (`as_mended` tells every two answers of `mend` apart, whatever bytes are left.) Assumes nothing.
use mathlib.Core.Path.{◌≡◌, refl, ap}
use mathlib.Core.List.{List}
use Prim.Native.Nat.{ℕ}
use Rattle.model.proofs.OneAnswer.{OneAnswerAnd, agree}
use Rattle.error.specs.Refused.{as_verdict}
use Rattle.error.proofs.OneAnswer.{one_refusal}
use Rattle.scan.specs.Answers.{as_scan}
use Rattle.scan.proofs.OneAnswer.{one_scan}
use Rattle.mending.specs.declared.Mending.{Mending}
use Rattle.std.specs.Prelude.{Result, Ok, Err}
use Rattle.error.specs.declared.Refusal.{Refusal}
use Rattle.mending.specs.Answers.{as_mending, as_mended}
use Rattle.mending.proofs.mend.Reads as mend

pub one_mending : (a b : Mending) (x y : List ℕ) → as_mending a x ≡ as_mending b y → a ≡ b
one_mending a b x y e =
    let f : as_scan a.report ≡ as_scan b.report = cc in
    let r : a.report ≡ b.report = one_scan a.report b.report f in
    let s : a.stored ≡ b.stored = cc in
    let w : a.whole ≡ b.whole = cc in
    rw (r, s, w) refl

pub one_mend : (a b : Result Mending Refusal) (x y : List ℕ) → as_mended a x ≡ as_mended b y → a ≡ b
one_mend (Ok m) (Ok n) x y e = ap Ok (one_mending m n x y e)
one_mend (Ok m) (Err r) x y e = cc
one_mend (Err r) (Ok n) x y e = cc
one_mend (Err r) (Err q) x y e = let v : as_verdict r ≡ as_verdict q = cc in ap Err (one_refusal r q v)

-- ---- no two answers of a function fit its promise

pub one_answer_mend : OneAnswerAnd mend.Learnt (λ κs s. s.0.now)
one_answer_mend κs a r r' s s' p q = (one_mend r r' s.0.now s'.0.now (agree p.0 q.0), agree p.1 q.1)
