-- A word that is inside is the number that is read. Assumes nothing.
use Rattle.std.proofs.Common.{◌≡◌, sym, ap, List, ℕ, ◌+◌, ◌≤◌, length, Option, unwrap_or}
use borrow.Author.Tests.{le-leb}
use Rattle.model.specs.Bytes.{read, read_in}
use Rattle.model.proofs.BytesLaw.{read_in_lem}

pub or_zero_in : (k : ℕ) (x : List ℕ) (p : ℕ) → p + k ≤ length x → unwrap_or (read_in k x p) 0 ≡ read k x p
or_zero_in k x p h = sym (ap (λ (o : Option ℕ). unwrap_or o 0) (read_in_lem k x p (le-leb (p + k) (length x) h)))
