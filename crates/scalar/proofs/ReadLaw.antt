-- A number of k bytes at p is read off the first k of the bytes from p on. Assumes nothing.
use Rattle.std.proofs.Common.{◌≡◌, ap, ◌∙◌, List, ℕ, ◌+◌, ◌≤◌, ◌<◌, length, take, drop, get_or-take, arith}
use Rattle.std.specs.Prelude.{None, Some}
use Rattle.std.specs.List.{slice_range}
use borrow.Author.Tests.{le-leb, lt-leb}
use native.Mathlib.Nat.{add-zero}
use Rattle.model.specs.Bytes.{read, read_in}
use Rattle.model.proofs.BytesLaw.{read_ext, read_drop, read_in_lem, read_past, part_to_end}

module _ (k : ℕ) (x : List ℕ) (p : ℕ) where
  pub outside : length x < p + k → None ≡ read_in k x p
  outside h = read_past k x p (lt-leb (p + k) (length x) h)

  first : read k (take k (slice_range x p (length x))) 0 ≡ read k x p
  first =
      ap (λ (l : List ℕ). read k (take k l) 0) (part_to_end x p)
      ∙ read_ext k (take k (drop p x)) (drop p x) 0 0 (λ j h. get_or-take k (drop p x) (0 + j) 0 (omega arith))
      ∙ read_drop k p x 0
      ∙ ap (read k x) (add-zero p)

  pub inside : (rest bytes : List ℕ) {v : ℕ} → p + k ≤ length x → rest ≡ slice_range x p (length x) → bytes ≡ take k rest → v ≡ read k bytes 0 → Some v ≡ read_in k x p
  inside rest bytes h r b e = ap Some (e ∙ ap (λ (l : List ℕ). read k l 0) (b ∙ ap (take k) r) ∙ first) ∙ read_in_lem k x p (le-leb (p + k) (length x) h)
