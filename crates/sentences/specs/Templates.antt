-- A step of code, for the contract of a private function: a number put into a text.
use Rattle.std.specs.Prelude.{cond, List, [], ◌∷◌, ◌++◌, ℕ, eqb}
use Rattle.model.specs.Programs.{decimal}

-- a text with a number in the place of its first #
abbrev pub filled : ℕ → List ℕ → List ℕ
filled n [] = []
filled n (x ∷ xs) = cond (eqb x 35) (decimal n ++ xs) (x ∷ filled n xs)
