-- No two answers fit one promise, nor two sets of kinds that are left. Assumes nothing.
use Rattle.std.proofs.Common.{◌≡◌, refl, ℕ, Result, Ok, Err, IfOk, OnOk, OnErr, List, sym, ap, ◌∙◌, arith}
use Rattle.model.specs.Writer as model
use Rattle.model.specs.Writer.{regions}
use Rattle.model.proofs.OneAnswer.{OneAnswer, OneAnswerAnd, agree}
use Rattle.error.specs.declared.Refusal.{Refusal}
use Rattle.error.specs.Refused.{as_check}
use Rattle.error.proofs.OneAnswer.{one_refusal, one_check}
use Rattle.plan.specs.Rows.{as_rows_verdict}
use Rattle.plan.proofs.rows.Row.is_protected.Reads as is-protected
use Rattle.plan.proofs.rows.Row.plane_words.Reads as plane-words
use Rattle.plan.proofs.rows.Row.regions.Reads as row-regions
use Rattle.plan.proofs.kinds.Kinds.new.Reads as new-kinds
use Rattle.plan.proofs.kinds.Kinds.contains.Reads as contains-kind
use Rattle.plan.proofs.kinds.Kinds.insert.Reads as insert-kind
use Rattle.plan.proofs.rows.check_row.Reads as check-row
use Rattle.plan.proofs.rows.check_rows.Reads as check-rows
use Rattle.plan.proofs.sizes.check_sizes.Reads as check-sizes

pub one_count : (rs : List model.Row) (a b : Result ℕ Refusal) → as_rows_verdict a ≡ as_rows_verdict b → IfOk a (λ n. n ≡ regions rs) → IfOk b (λ n. n ≡ regions rs) → a ≡ b
one_count rs (Ok m) (Ok n) e f g = ap Ok (f ∙ sym g)
one_count rs (Ok m) (Err r) e f g = let z : ◌≡◌ {A = ℕ} 0 1 = cc in absurd (omega arith)
one_count rs (Err r) (Ok n) e f g = let z : ◌≡◌ {A = ℕ} 0 1 = cc in absurd (omega arith)
one_count rs (Err r) (Err s) e f g = ap Err (one_refusal r s e)

one_left : (marked old : List ℕ) (a b : Result Unit Refusal) {x y : List ℕ} → as_check a ≡ as_check b → OnOk a (x ≡ marked) → OnErr a (x ≡ old) → OnOk b (y ≡ marked) → OnErr b (y ≡ old) → x ≡ y
one_left m o (Ok a) (Ok b) e p p' q q' = p ∙ sym q
one_left m o (Ok a) (Err r) e p p' q q' = let z : ◌≡◌ {A = ℕ} 0 1 = cc in absurd (omega arith)
one_left m o (Err r) (Ok b) e p p' q q' = let z : ◌≡◌ {A = ℕ} 0 1 = cc in absurd (omega arith)
one_left m o (Err r) (Err s) e p p' q q' = p' ∙ sym q'

-- ---- no two answers of a function fit its promise

pub one_answer_is_protected : OneAnswer is-protected.Learnt
one_answer_is_protected κs a r r' s s' p q = agree p q

pub one_answer_plane_words : OneAnswer plane-words.Learnt
one_answer_plane_words κs a r r' s s' p q = agree p.0 q.0

pub one_answer_regions : OneAnswer row-regions.Learnt
one_answer_regions κs a r r' s s' p q = agree p.0 q.0

pub one_answer_new : OneAnswer new-kinds.Learnt
one_answer_new κs a r r' s s' p q = λ j. record { bits = agree p q j }

pub one_answer_contains : OneAnswer contains-kind.Learnt
one_answer_contains κs a r r' s s' p q = agree p q

pub one_answer_insert : OneAnswerAnd insert-kind.Learnt (λ κs s. s.0.now.bits)
one_answer_insert κs a r r' s s' p q = (refl, agree p q)

pub one_answer_check_row : OneAnswerAnd check-row.Learnt (λ κs s. s.0.now.bits)
one_answer_check_row κs a r r' s s' p q = (one_check r r' (agree p.0 q.0), one_left _ _ r r' (agree p.0 q.0) p.1.0 p.1.1 q.1.0 q.1.1)

pub one_answer_check_rows : OneAnswer check-rows.Learnt
one_answer_check_rows κs a r r' s s' p q = one_count _ r r' (agree p.0 q.0) p.1 q.1

pub one_answer_check_sizes : OneAnswer check-sizes.Learnt
one_answer_check_sizes κs a r r' s s' p q = one_check r r' (agree p q)
