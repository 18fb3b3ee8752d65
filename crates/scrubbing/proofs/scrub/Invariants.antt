use mathlib.Core.Path.{◌≡◌}
use mathlib.Core.Bool.{false}
use mathlib.Core.List.{List}
use Rattle.std.specs.Prelude.{Option}
use Prim.Native.Nat.{ℕ, ◌-◌, ◌*◌, ◌^◌, ◌≤◌}
use lib.ListN.{length}
use Rattle.model.specs.Refusals.{fine}
use Rattle.model.specs.Layout.{count}
use Rattle.model.specs.Parse.{parse_verdict}
use Rattle.model.specs.Scrub.{State, Scrubbed, scrub_from, reported}
use Rattle.model.specs.Scrub as model
use Rattle.view.specs.declared.header.Header.{Header}
use Rattle.model.specs.Scan.{Report}
use Rattle.scan.specs.Answers.{as_scan}
use Rattle.scan.specs.Tally.{or_zeros}
use Rattle.scrubbing.specs.Stands.{Stands}
use Rattle.scrubbing.proofs.scrub.Given as goal

-- `scrubbing::scrub` meets its contract. The invariant: the regions that are left take the state where it has to go, and what was
-- not written since the last parse is known to parse. Assumes nothing.
-- x is known to parse, with that many regions
pub record Checked (x : List ℕ) (h : Header) : Type 0 where
  pub fine_now : parse_verdict x ≡ fine
  pub count_now : h.region_count ≡ count x

-- the n - i regions that are left take a state that the counts and the image stand for to what is asked of x₀
pub record Goes (x₀ : List ℕ) (n i : ℕ) (o : Option Report) (x : List ℕ) : Type 0 where
  pub state : State
  pub stands : Stands o x state
  pub ends : scrub_from (n - i) i state ≡ model.scrub x₀

abbrev pub invariant-loop-i : goal.invariant-loop-i
invariant-loop-i l = (length l.bytes ≡ length l.initial.bytes) × ((or_zeros (as_scan l.total)).words ≤ l.i * 2 ^ 32) × Goes l.initial.bytes l.i-end l.i (as_scan l.total) l.bytes × (l.written ≡ false → Checked l.bytes l.header)
