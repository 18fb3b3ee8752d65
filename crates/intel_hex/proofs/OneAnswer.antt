-- No two answers fit one promise, nor two buffers that are left. (`as_hex` tells every two answers of `write` apart.) Assumes nothing.
use mathlib.Core.Path.{◌≡◌, ap, ap₂}
use Prim.Native.Nat.{ℕ}
use native.Mathlib.Omega.{arith}
use Rattle.model.specs.Refusals.{refuse}
use Rattle.model.proofs.OneAnswer.{OneAnswerAnd, agree}
use Rattle.error.specs.Refused.{number_of, detail_of}
use Rattle.error.proofs.OneAnswer.{one_refusal}
use Rattle.std.specs.Prelude.{Result, Ok, Err}
use Rattle.error.specs.declared.Refusal.{Refusal}
use Rattle.intel_hex.specs.Answers.{as_hex}
use Rattle.intel_hex.proofs.writing.write.Reads as write

pub one_hex : (a b : Result ℕ Refusal) → as_hex a ≡ as_hex b → a ≡ b
one_hex (Ok m) (Ok n) e = ap Ok (let z : m ≡ n = cc in z)
one_hex (Ok m) (Err r) e = let z : ◌≡◌ {A = ℕ} 0 1 = cc in absurd (omega arith)
one_hex (Err r) (Ok n) e = let z : ◌≡◌ {A = ℕ} 0 1 = cc in absurd (omega arith)
one_hex (Err r) (Err s) e =
    let m : number_of r ≡ number_of s = cc in
    let d : detail_of r ≡ detail_of s = cc in
    ap Err (one_refusal r s (ap₂ refuse m d))

-- ---- no two answers of a function fit its promise

pub one_answer_write : OneAnswerAnd write.Learnt (λ κs s. s.1.0.now)
one_answer_write κs a r r' s s' p q = (one_hex r r' (agree p.0 q.0), agree p.1.0 q.1.0)
