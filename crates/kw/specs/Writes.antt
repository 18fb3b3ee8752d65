-- What kw_write gives back in numbers. (FORMAT 2, 9)
use Rattle.std.specs.Prelude.{List, [], ◌∷◌, ℕ}
use Rattle.model.specs.Writer as model
use Rattle.writer.specs.Answers.{WriteAnswer, wrote, refused, answer_of}

-- 0, or the refusal's number
abbrev pub number_in : WriteAnswer → ℕ
number_in (wrote n) = 0
number_in (refused n d) = n

-- the image's length, or the refusal's detail
abbrev pub answer_in : WriteAnswer → List ℕ
answer_in (wrote n) = n ∷ []
answer_in (refused n d) = d ∷ []

abbrev pub write_number : model.Written → ℕ
write_number w = number_in (answer_of w)

abbrev pub write_answer : model.Written → List ℕ
write_answer w = answer_in (answer_of w)
