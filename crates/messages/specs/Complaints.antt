-- What the command says, in words, of an image that is refused or too long. (FORMAT 14)
use Rattle.std.specs.Prelude.{cond, List, [], ◌∷◌, ◌++◌, ℕ}
use Rattle.paths.specs.Paths.{longer_than_names}
use Rattle.model.specs.Programs.{text, lines}
use Rattle.sentences.specs.Sentences.{sentence}
use Rattle.exit_status.specs.declared.Verdict.{Verdict}
use Rattle.exit_status.specs.declared.Verdict.TheVariants as verdict

abbrev pub too_long_sentence : List ℕ
too_long_sentence = text "the image has more than 8388608 bytes (too-long)"

-- what stands before the sentence
abbrev pub naming : List ℕ → List ℕ
naming name = text "kw: " ++ (name ++ text ": ")

abbrev pub complaint : List ℕ → Verdict → List ℕ
complaint name verdict.Sound = []
complaint name verdict.Damaged = []
complaint name verdict.TooLong = lines ((naming name ++ too_long_sentence) ∷ [])
complaint name (verdict.Refused r) = lines ((naming name ++ sentence r) ∷ [])

-- no name is longer than 4,096 bytes, and of one that were nothing is said
abbrev pub refusal_text : List ℕ → Verdict → List ℕ
refusal_text name v = cond (longer_than_names name) [] (complaint name v)
