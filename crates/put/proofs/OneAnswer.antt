-- No two answers fit one promise, nor two buffers that are left. Assumes nothing.
use denote.Param.Laws.{Laws}
use denote.RattleType.{RattleType}
use mir.Syntax.{Dict}
use mathlib.Core.Path.{◌≡◌}
use mathlib.Core.List.{List}
use Prim.Native.Nat.{ℕ}
use Rattle.std.proofs.Common.{Fits, w64}
use Rattle.model.proofs.OneAnswer.{OneAnswerAnd, agree}
use Rattle.scalar.specs.declared.Number.{Ghosts}
use Rattle.put.specs.Put.{Put}
use Rattle.put.proofs.put_bytes.Reads as put_bytes
use Rattle.put.proofs.put_zeros.Reads as put-zeros
use Rattle.put.proofs.put_number.Reads as put-number
use Rattle.put.proofs.put_field.Reads as put-field

pub one_put : {before : List ℕ} {p : ℕ} {bs : List ℕ} {n n' : ℕ} {o o' : List ℕ} → Put before p bs n o → Put before p bs n' o' → (n ≡ n') × (o ≡ o')
one_put u v = (agree u.behind v.behind, agree u.stored v.stored)

-- ---- no two answers of a function fit its promise

pub one_answer_put_bytes : OneAnswerAnd put_bytes.Learnt (λ κs s. s.0.now)
one_answer_put_bytes κs a r r' s s' p q = one_put p q

pub one_answer_put_zeros : OneAnswerAnd put-zeros.Learnt (λ κs s. s.0.now)
one_answer_put_zeros κs a r r' s s' p q = one_put p q

-- of `put_number`, at every type of numbers
pub one_answer_put_number : (T : RattleType) (n : ℕ) (l : Laws T) (f : Fits w64 n) (g : Ghosts T.Denot n) (d : Dict) → OneAnswerAnd (put-number.Learnt T n l f g d) (λ κs s. s.0.now)
one_answer_put_number T n l f g d κs a r r' s s' p q = one_put p q

pub one_answer_put_field : OneAnswerAnd put-field.Learnt (λ κs s. s.0.now)
one_answer_put_field κs a r r' s s' p q = one_put p.0 q.0
