-- The answer as the model has it, and what the lent output holds afterwards. (FORMAT 9)
use Rattle.std.specs.Prelude.{List, ◌++◌, ℕ, length, drop, Result, Ok, Err}
use Rattle.model.specs.Writer as model
use Rattle.error.specs.declared.Refusal.{Refusal}
use Rattle.error.specs.Refused.{number_of, detail_of}

-- an image's length, or a refusal
pub data WriteAnswer : Type 0 where
  wrote : ℕ → WriteAnswer
  refused : ℕ → ℕ → WriteAnswer

abbrev pub as_written : Result ℕ Refusal → WriteAnswer
as_written (Ok n) = wrote n
as_written (Err r) = refused (number_of r) (detail_of r)

abbrev pub answer_of : model.Written → WriteAnswer
answer_of (model.image x) = wrote (length x)
answer_of (model.refused_plan n d) = refused n d

-- the image, and behind it the output's bytes as they were; or every byte as it was
abbrev pub bytes_after : model.Written → List ℕ → List ℕ
bytes_after (model.image x) out = x ++ drop (length x) out
bytes_after (model.refused_plan n d) out = out
