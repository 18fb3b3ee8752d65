-- No two answers fit one promise. Assumes nothing.
use denote.Param.Laws.{Laws}
use denote.RattleType.{RattleType}
use mir.Syntax.{Dict}
use Rattle.std.proofs.Common.{◌≡◌, refl, ap, ℕ, Option, Some, None, option_map, Fits, w64}
use Rattle.model.proofs.OneAnswer.{OneAnswer, agree}
use Rattle.scalar.specs.declared.Number.{Ghosts}
use Rattle.scalar.specs.Number.{NumberLaws}
use Rattle.scalar.proofs.number_at.Reads as number-at
use Rattle.scalar.proofs.u64_or_zero.Reads as u64-or-zero
use Rattle.scalar.proofs.U8Number1.from_bytes.Reads as u8-from
use Rattle.scalar.proofs.U8Number1.to_bytes.Reads as u8-bytes
use Rattle.scalar.proofs.U16Number2.from_bytes.Reads as u16-from
use Rattle.scalar.proofs.U16Number2.to_bytes.Reads as u16-bytes
use Rattle.scalar.proofs.U32Number4.from_bytes.Reads as u32-from
use Rattle.scalar.proofs.U32Number4.to_bytes.Reads as u32-bytes
use Rattle.scalar.proofs.U64Number8.from_bytes.Reads as u64-from
use Rattle.scalar.proofs.U64Number8.to_bytes.Reads as u64-bytes
use Rattle.scalar.proofs.maj3.Reads as maj3

-- two answers of a reader that stand for one number, or for none, are the same
pub one_number : {A : Type 0} {value : A → ℕ} {n : ℕ} → NumberLaws value n → (a b : Option A) → option_map value a ≡ option_map value b → a ≡ b
one_number {value = value} l (Some m) (Some k) e =
    let v : value m ≡ value k = cc in ap Some (l.one m k v)
one_number l (Some m) None e = cc
one_number l None (Some k) e = cc
one_number l None None e = refl

-- ---- no two answers of a function fit its promise

-- of `number_at`, at every type of numbers
pub one_answer_number_at : (T : RattleType) (n : ℕ) (l : Laws T) (f : Fits w64 n) (g : Ghosts T.Denot n) (d : Dict) → NumberLaws g.value n → OneAnswer (number-at.Learnt T n l f g d)
one_answer_number_at T n l f g d laws κs a r r' s s' p q = one_number laws r r' (agree p q)

pub one_answer_u64_or_zero : OneAnswer u64-or-zero.Learnt
one_answer_u64_or_zero κs a r r' s s' p q = agree p q

pub one_answer_u8_from : OneAnswer u8-from.Learnt
one_answer_u8_from κs a r r' s s' p q = agree p q

pub one_answer_u8_bytes : OneAnswer u8-bytes.Learnt
one_answer_u8_bytes κs a r r' s s' p q = agree p q

pub one_answer_u16_from : OneAnswer u16-from.Learnt
one_answer_u16_from κs a r r' s s' p q = agree p q

pub one_answer_u16_bytes : OneAnswer u16-bytes.Learnt
one_answer_u16_bytes κs a r r' s s' p q = agree p q

pub one_answer_u32_from : OneAnswer u32-from.Learnt
one_answer_u32_from κs a r r' s s' p q = agree p q

pub one_answer_u32_bytes : OneAnswer u32-bytes.Learnt
one_answer_u32_bytes κs a r r' s s' p q = agree p q

pub one_answer_u64_from : OneAnswer u64-from.Learnt
one_answer_u64_from κs a r r' s s' p q = agree p q

pub one_answer_u64_bytes : OneAnswer u64-bytes.Learnt
one_answer_u64_bytes κs a r r' s s' p q = agree p q

pub one_answer_maj3 : OneAnswer maj3.Learnt
one_answer_maj3 κs a r r' s s' p q = agree p.0 q.0
