-- The report, visit by visit. Assumes nothing.
use mathlib.Core.Path.{◌≡◌, refl, sym, ap, ap₂, ◌∙◌, subst}
use mathlib.Core.Bool.{Bool}
use mathlib.Core.List.{List, [], ◌++◌}
use Rattle.std.specs.Prelude.{Option, None, Some}
use Prim.Native.Nat.{ℕ, suc, ◌≤◌}
use native.Mathlib.Omega.{arith}
use lib.ListN.{length, take}
use lib.Seq.{take_all}
use Rattle.model.specs.Bytes.{given}
use Rattle.model.specs.Refusals.{fine}
use Rattle.model.specs.Layout.{Entry, count}
use Rattle.model.specs.Parse.{parse_verdict}
use Rattle.model.specs.Views.{entries_for, nth}
use Rattle.model.specs.Scan.{Report, report, Visit, visits_over, Codeword, codewords_in, classes_at, scan_of, scan_in, visits, scan}
use Rattle.model.specs.Scrub.{visit_at}
use Rattle.model.proofs.ScanLaw.{classes_append, codewords_append, scan_given, visits_to}
use Rattle.view.proofs.EntriesForLaw.{length_entries_for, entries_for_is}
use Rattle.scan.specs.declared.runs.ProtectedRun.{ProtectedRun}
use Rattle.scan.specs.Runs.{codewords_of, IsRunOf}
use Rattle.scan.specs.Tally.{reported, together, or_zeros, Bounded}
use Rattle.scan.proofs.TallyLaw.{together_reported, bounded_given}

pub bounded_scan : (x : List ℕ) (vs : List Visit) → Bounded (or_zeros (scan_of x vs))
bounded_scan x vs = subst (λ (o : Option Report). Bounded (or_zeros o)) (sym (scan_given x vs)) (bounded_given _ (classes_at x (codewords_in vs)))

-- what is not visited has no classes
pub none_met : (x : List ℕ) (vs : List Visit) → vs ≡ [] → classes_at x (codewords_in vs) ≡ []
unfolding codewords_in classes_at
none_met x vs e = rw e

pub scan_append : (x : List ℕ) (vs ws : List Visit) → scan_of x (vs ++ ws) ≡ together (scan_of x vs) (scan_of x ws)
scan_append x vs ws =
    scan_given x (vs ++ ws)
    ∙ ap (reported (vs ++ ws)) (ap (classes_at x) (codewords_append vs ws) ∙ classes_append x (codewords_in vs) (codewords_in ws))
    ∙ sym (together_reported vs ws (classes_at x (codewords_in vs)) (classes_at x (codewords_in ws)) (none_met x vs) (none_met x ws))
    ∙ sym (ap₂ together (scan_given x vs) (scan_given x ws))

pub no_scan : (x : List ℕ) (vs : List Visit) → vs ≡ [] → scan_of x vs ≡ None
unfolding scan_of
no_scan x vs e = rw e

-- a run is its visits
pub scan_run_is : (x : List ℕ) (vs : List Visit) (r : ProtectedRun) → IsRunOf x vs r → Some (report (classes_at x (codewords_of r))) ≡ scan_of x vs
scan_run_is x vs r k =
    ap₂ (λ (t : Bool) (ps : List Codeword). given t (report (classes_at x ps))) (sym k.visits) k.codewords ∙ sym (scan_given x vs)

-- ---- all entries

-- what a scan of the first i entries says
unfoldable pub scanned_to : List ℕ → ℕ → ℕ → Option Report
scanned_to x n i = scan_of x (visits_over (length x) (entries_for n x) (take i (entries_for n x)))

pub none_scanned : (x : List ℕ) (n : ℕ) → scanned_to x n 0 ≡ None
unfolding scanned_to visits_over scan_of
none_scanned x n = refl

pub scanned_bounded : (x : List ℕ) (n i : ℕ) → Bounded (or_zeros (scanned_to x n i))
unfolding scanned_to
scanned_bounded x n i = bounded_scan x (visits_over (length x) (entries_for n x) (take i (entries_for n x)))

pub scanned_next : (x : List ℕ) (n i : ℕ)
    → together (scanned_to x n i) (scan_of x (visit_at (length x) (entries_for n x) (nth i (entries_for n x)))) ≡ scanned_to x n (suc i)
unfolding scanned_to
scanned_next x n i =
    let es = entries_for n x in
    sym (ap (scan_of x) (visits_to (length x) es es i) ∙ scan_append x (visits_over (length x) es (take i es)) (visit_at (length x) es (nth i es)))

pub scanned_all : (x : List ℕ) (n i : ℕ) → n ≤ i → scanned_to x n i ≡ scan_in n x
unfolding scanned_to scan_in
scanned_all x n i h =
    ap (λ (es : List Entry). scan_of x (visits_over (length x) (entries_for n x) es))
    (take_all i (entries_for n x) (omega (arith, length_entries_for n x)))

-- of an image that parse accepts, the entries are its directory
pub scan_is : (x : List ℕ) → parse_verdict x ≡ fine → scan_in (count x) x ≡ scan x
unfolding scan_in scan visits
scan_is x h = ap (λ (es : List Entry). scan_of x (visits_over (length x) es es)) (entries_for_is x h)
