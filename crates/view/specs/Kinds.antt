-- Steps of code, for private contracts; nothing that a reader must believe. The kinds of a run of entries, beside the entries. (FORMAT 5)
use Rattle.std.specs.Prelude.{Bool, false, ◌||◌, List, [], ◌∷◌, ℕ, eqb}
use Rattle.model.specs.Layout.{Entry}

unfoldable pub kinds_of : List Entry → List ℕ
kinds_of [] = []
kinds_of (e ∷ es) = e.kind ∷ kinds_of es

unfoldable pub elem : ℕ → List ℕ → Bool
elem k [] = false
elem k (x ∷ xs) = eqb x k || elem k xs
