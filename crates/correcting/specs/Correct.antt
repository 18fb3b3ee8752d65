-- Steps of code, for the contract of a building block that other crates call; no statement of the demands speaks of them. Words corrected in place, one after the other. (FORMAT 8, 10)
use Rattle.std.specs.Prelude.{Bool, true, false, List, [], ◌∷◌, ℕ}
use Rattle.model.specs.Parity.{Class}
use Rattle.model.specs.Scan.{Codeword, class_at}
use Rattle.model.specs.Scrub.{stored_word}
use Rattle.model.specs.Mend.{stored_codeword}

-- what is stored of a codeword of a class: with its check byte, as mend does, or the word alone, as scrub does
abbrev pub stored_as : Bool → Class → Codeword → List ℕ → List ℕ
stored_as true k p x = stored_codeword k p x
stored_as false k p x = stored_word k p x

unfoldable pub correct_at : Bool → Codeword → List ℕ → List ℕ
correct_at b p x = stored_as b (class_at x p) p x

unfoldable pub correct_all : Bool → List Codeword → List ℕ → List ℕ
correct_all b [] x = x
correct_all b (p ∷ ps) x = correct_all b ps (correct_at b p x)

-- the classes in which the codewords are met, each after those before it were corrected
unfoldable pub met : Bool → List ℕ → List Codeword → List Class
met b x [] = []
met b x (p ∷ ps) = class_at x p ∷ met b (correct_at b p x) ps
