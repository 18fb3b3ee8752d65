use mathlib.Core.Path.{◌≡◌}
use Prim.Native.Nat.{◌+◌, ◌-◌}
use lib.ListN.{length}
use Rattle.model.specs.Scan.{codewords_from, report}
use Rattle.model.specs.Steps.{plus}
use Rattle.ecc.specs.Answers.{as_report}
use Rattle.scan.specs.Runs.{codewords_of}
use Rattle.scan.specs.Tally.{Room}
use Rattle.correcting.specs.Correct.{correct_all, met}
use Rattle.correcting.proofs.correct_run.Given as goal

-- `correcting::correct_run` meets its contract. The invariant: the words that are left take image and counts where they have to go. Assumes nothing.
abbrev pub invariant-loop-k : goal.invariant-loop-k
invariant-loop-k l = (length l.bytes ≡ length l.initial.bytes) × Room (l.run.words - l.k) (as_report l.report) × (correct_all l.with_check (codewords_from (l.run.words - l.k) (l.run.word + l.k) (l.run.check + l.k)) l.bytes ≡ correct_all l.with_check (codewords_of l.run) l.initial.bytes) × (plus (as_report l.report) (report (met l.with_check l.bytes (codewords_from (l.run.words - l.k) (l.run.word + l.k) (l.run.check + l.k)))) ≡ report (met l.with_check l.initial.bytes (codewords_of l.run)))
