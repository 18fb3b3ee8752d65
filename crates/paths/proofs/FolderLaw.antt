-- A folder ends behind the last slash. Assumes nothing.
use Rattle.std.proofs.Common.{◌≡◌, ℕ, ◌≤◌, not, List, length, ap, arith}
use Rattle.std.specs.List.{IsAfterLastMatch}
use Rattle.std.proofs.lemmas.List.Sums.{suffix_len_is}
use Rattle.paths.specs.Paths.{is_slash, folder_length}

pub folder_at : (p : List ℕ) (n : ℕ) → n ≤ length p → IsAfterLastMatch is_slash p n → n ≡ folder_length p
folder_at p n l h =
    omega (arith, suffix_len_is (λ x. not (is_slash x)) p n 0 l (λ k a b. ap not (h.0 k 0 a b)) (λ z. ap not (h.1 z 0)))
