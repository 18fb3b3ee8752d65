use mathlib.Core.Path.{◌≡◌}
use mathlib.Core.Bool.{false}
use Prim.Native.Nat.{ℕ, ◌<◌}
use Rattle.model.proofs.CopiesLaw.{off_at}
use Rattle.view.proofs.vote.Copies.differ.Given as goal

-- `view::vote::Copies::differ` meets its contract. The invariant: no copy of a byte passed differs. Assumes nothing.
abbrev pub invariant-loop-j : goal.invariant-loop-j
invariant-loop-j l = (p : ℕ) → p < l.j → off_at l.self.base l.self.len l.self.bytes.now p ≡ false
