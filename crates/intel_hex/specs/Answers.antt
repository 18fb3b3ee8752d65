-- The answer as the model has it, and what the lent buffer holds afterwards. (FORMAT 15)
use Rattle.std.specs.Prelude.{ℕ, List, ◌++◌, length, drop, Result, Ok, Err}
use Rattle.model.specs.Refusals.{Verdict, fine, refuse}
use Rattle.model.specs.Hex.{Outcome}
use Rattle.error.specs.Refused.{number_of, detail_of}
use Rattle.error.specs.declared.Refusal.{Refusal}

-- a length, or a refusal
pub data HexAnswer : Type 0 where
  done : ℕ → HexAnswer
  refused : ℕ → ℕ → HexAnswer

abbrev pub as_hex : Result ℕ Refusal → HexAnswer
as_hex (Ok n) = done n
as_hex (Err r) = refused (number_of r) (detail_of r)

abbrev pub answer_in : Verdict → ℕ → HexAnswer
answer_in fine n = done n
answer_in (refuse n d) k = refused n d

abbrev pub answer_of : Outcome → HexAnswer
answer_of o = answer_in o.verdict (length o.bytes)

-- the bytes of the outcome, and behind them the buffer as it was
abbrev pub filled : Outcome → List ℕ → List ℕ
filled o buffer = o.bytes ++ drop (length o.bytes) buffer
