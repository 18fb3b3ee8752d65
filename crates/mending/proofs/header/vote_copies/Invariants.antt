use mathlib.Core.Path.{◌≡◌}
use Prim.Native.Nat.{◌-◌}
use lib.ListN.{length}
use Rattle.model.specs.Mend.{changed}
use Rattle.lemmas.specs.Steps.{copy_votes}
use Rattle.mending.proofs.VoteLaw.{Untouched}
use Rattle.mending.proofs.header.vote_copies.Given as goal

-- `mending::header::vote_copies` meets its contract. The invariant: the bytes that are left take the image where it has to go, and are untouched. Assumes nothing.
abbrev pub invariant-loop-j : goal.invariant-loop-j
invariant-loop-j l = (length l.bytes ≡ length l.initial.bytes) × (copy_votes l.base l.k (l.k - l.j) l.j l.bytes ≡ copy_votes l.base l.k l.k 0 l.initial.bytes) × (l.stored ≡ changed l.initial.bytes l.bytes) × Untouched l.base l.k l.j l.initial.bytes l.bytes
