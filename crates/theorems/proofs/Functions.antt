-- The demands of the functions themselves: `writer::write`, `mending::mend`, `scrubbing::scrub` and `text::scrub`, through their promises (specs/Runs.antt). `Bytes` is true of every lent slice of u8, by its type. Assumes nothing.
use mathlib.Core.Path.{◌≡◌, sym, ap, ◌∙◌}
use mathlib.Core.Bool.{true, false}
use mathlib.Core.List.{List, [], ◌∷◌}
use Prim.Native.Nat.{ℕ, ◌/◌, ◌≤◌, ◌<◌}
use lib.Dec.{ltb}
use lib.ListN.{length, take}
use Rattle.model.specs.Bytes.{at, word_at, Bytes}
use Rattle.model.specs.Layout.{count, header_length, header, directory, scrub_wanted}
use Rattle.model.specs.Parse.{header_of, parse, accepted}
use Rattle.model.specs.Scan.{scan}
use Rattle.model.specs.Scrub.{scrub}
use Rattle.model.specs.Writer.{planes}
use Rattle.model.specs.Programs.{stored_line, lines}
use Rattle.text.specs.declared.Printed.{Printed}
use lib.Seq.{sets}
use Rattle.model.specs.Mend.{LaidApart, FirstMisplaced, MendRule, changed, whole, mended}
use Rattle.error.specs.declared.Refusal.TheVariants.{OverlappingRegions}
use Rattle.mending.proofs.OneAnswer.{one_mend}
use Rattle.scan.specs.Answers.{as_scan}
use Rattle.scan.proofs.OneAnswer.{one_scan}
use Rattle.plan.specs.Rows.{as_plan}
use Rattle.plan.specs.declared.rows.Row.{Row}
use Rattle.mending.specs.Answers.{as_mended}
use Rattle.mending.specs.declared.Mending as answer
use Rattle.theorems.specs.Damage.{Protected, Damaged, Touched, Uncorrectable, uncorrected, ReadsBack}
use Rattle.theorems.specs.ScrubSteps.{Changes}
use Rattle.theorems.specs.Runs.{Writes, MendsTo, ScrubsTo, Prints}
use Rattle.theorems.proofs.Demands as demands
use Rattle.theorems.proofs.RunLaw as run
use Rattle.std.specs.Prelude.{Option, Result, Ok, Err}
use Rattle.ecc.specs.declared.EccReport.{EccReport}
use Rattle.error.specs.declared.Refusal.{Refusal}
use Rattle.mending.specs.declared.Mending.{Mending}

-- ---- write left n bytes of image at the front of `after`; d is that image damaged, and mend of d answered r and left y

module _ (rows : List Row) (payload out : List ℕ) (n : ℕ) (after : List ℕ) (wrote : Writes rows payload out (Ok n) after) (bytes : Bytes payload) where
  -- The damage of the allowed kind mends to the writer's exact bytes.
  pub restores : (d : List ℕ) → Damaged 1 (take n after) d → (r : Result Mending Refusal) (y : List ℕ) → MendsTo d r y
      → (y ≡ take n after)
      × (as_mended r y ≡ mended (take n after) (scan d) (changed d (take n after)) (ltb 0 (planes (as_plan rows))))
  restores d damage r y mends =
      run.mends_to d r y _ mends
      (demands.restores (as_plan rows) payload (length out) (take n after) d (run.written rows payload out n after wrote) bytes damage)

  -- The program scrub writes the writer's exact bytes, and says how many differed.
  pub command_restores : (d buffer : List ℕ) → Damaged 1 (take n after) d → length (take n after) ≤ 65536 → (r : Printed) (y line : List ℕ) → Prints d buffer r y line
      → (take r.image y ≡ take n after) × (line ≡ sets buffer 0 (lines (stored_line (changed d (take n after)) ∷ [])))
  command_restores d buffer damage short r y line scrubs =
      let o = demands.command_restores (as_plan rows) payload (length out) (take n after) d (run.written rows payload out n after wrote) bytes damage short in
      (scrubs.written ∙ o.0, scrubs.said ∙ ap (sets buffer 0) o.1)

  -- No other rows or payload come to it.
  pub one_origin : (rows' : List Row) (payload' out' : List ℕ) (n' : ℕ) (after' : List ℕ) → Writes rows' payload' out' (Ok n') after' → Bytes payload'
      → (d : List ℕ) → Damaged 1 (take n after) d → Damaged 1 (take n' after') d → (rows ≡ rows') × (payload ≡ payload')
  one_origin rows' payload' out' n' after' wrote' bytes' d damage damage' =
      let o = demands.one_origin (as_plan rows) (as_plan rows') payload payload' (length out) (length out') (take n after) (take n' after') d
      (run.written rows payload out n after wrote) bytes (run.written rows' payload' out' n' after' wrote') bytes' damage damage' in
      (run.same_rows rows rows' o.0, o.1)

  -- With up to two bits wrong in each word: whole means the writer's bytes, and an uncorrectable word is as given.
  pub whole_means_whole : (d : List ℕ) → Damaged 2 (take n after) d → (r : Result Mending Refusal) (y : List ℕ) → MendsTo d r y
      → (as_mended r y ≡ mended y (scan d) (changed d y) (whole d))
      × (whole d ≡ true → y ≡ take n after)
      × ((q c : ℕ) → Protected (take n after) q c → Uncorrectable d q c → (word_at y q ≡ word_at d q) × (at y c ≡ at d c))
      × ((p : ℕ) → ((q c : ℕ) → Protected (take n after) q c → Uncorrectable d q c → (q ≡ p / 8 → ⊥) × (c ≡ p → ⊥)) → at y p ≡ at (take n after) p)
  whole_means_whole d damage r y mends =
      let o = demands.whole_means_whole (as_plan rows) payload (length out) (take n after) d (run.written rows payload out n after wrote) bytes damage in
      let m = run.mends_to d r y _ mends o.1 in
      let e = m.0 in (
        m.1 ∙ ap (λ (z : List ℕ). mended z (scan d) (changed d z) (whole d)) (sym e),
        λ t. e ∙ o.2 t,
        λ q c p l. (ap (λ (z : List ℕ). word_at z q) e ∙ (o.3 q c p l).0, ap (λ (z : List ℕ). at z c) e ∙ (o.3 q c p l).1),
        λ p f. ap (λ (z : List ℕ). at z p) e ∙ o.4 p f,
      )

  -- What was written reads back.
  pub written_reads_back : ReadsBack (as_plan rows) payload (take n after)
  written_reads_back = demands.written_reads_back (as_plan rows) payload (length out) (take n after) (run.written rows payload out n after wrote) bytes

-- ---- mend of any x: it refuses with 12 exactly if parse accepts and the image isn't laid apart, and names the first misplaced entry

pub mend_refuses_exactly : (x : List ℕ) (r : Result Mending Refusal) (y : List ℕ) → MendsTo x r y
    → ((i : ℕ) → r ≡ Err (OverlappingRegions i)
    → (parse x ≡ accepted (header_of x)) × (LaidApart (count x) (directory x) → ⊥) × FirstMisplaced (count x) (directory x) i)
    × (parse x ≡ accepted (header_of x) → (LaidApart (count x) (directory x) → ⊥) → (i : ℕ) × (r ≡ Err (OverlappingRegions i)))
mend_refuses_exactly x r y u =
    let d = demands.mend_refuses_exactly x in (
      λ i e. d.1 i (sym u.answer ∙ ap (λ (z : Result Mending Refusal). as_mended z y) e),
      λ p n. let o = d.2 p n in (o.0, one_mend r (Err (OverlappingRegions o.0)) y y (u.answer ∙ o.1)),
    )

-- ---- mend of any x answered m and left y

module _ (x : List ℕ) (bytes : Bytes x) (m : answer.Mending) (y : List ℕ) (mends : MendsTo x (Ok m) y) where
  -- Mending again leaves the same bytes, corrects nothing and stores nothing.
  pub settles : (r : Result Mending Refusal) (z : List ℕ) → MendsTo y r z → (z ≡ y) × (as_mended r z ≡ mended y (uncorrected (as_scan m.report)) 0 m.whole)
  settles r z again =
      run.mends_to y r z _ again (demands.settles x y (as_scan m.report) m.stored m.whole bytes (run.mended x m y mends))

  -- What is left meets the rule, and nothing else does; the answer is scrub's report, the number of bytes that changed, and whether all is whole.
  pub mend_is_the_rule : MendRule x y
      × ((z : List ℕ) → MendRule x z → z ≡ y)
      × ((scrub x).report ≡ as_scan m.report)
      × (changed x y ≡ m.stored)
      × (whole x ≡ m.whole)
  mend_is_the_rule = demands.mend_is_the_rule x y (as_scan m.report) m.stored m.whole bytes (run.mended x m y mends)

  -- A byte that changed was outvoted, or the parity says that it holds the one flipped bit of its word.
  pub touches_nothing_else : (length y ≡ length x) × ((p : ℕ) → (at y p ≡ at x p → ⊥) → Touched x p)
  touches_nothing_else = demands.touches_nothing_else x y (as_scan m.report) m.stored m.whole bytes (run.mended x m y mends)

  -- What is left passes a fresh check.
  pub fresh_check : (parse y ≡ accepted (record { regions = count x; prologue_disagreed = false; directory_disagreed = false }))
      × (scrub_wanted y ≡ false)
      × (header y ≡ header x)
      × (directory y ≡ directory x)
      × LaidApart (count y) (directory y)
      × (scan y ≡ uncorrected (as_scan m.report))
  fresh_check = demands.fresh_check x y (as_scan m.report) m.stored m.whole bytes (run.mended x m y mends)

  -- A scrub of the same image answers mend's report. Its bytes are mend's outside header and check bytes, and as given there.
  pub scrub_agrees : (r : Option EccReport) (z : List ℕ) → ScrubsTo x r z
      → (r ≡ m.report)
      × (length z ≡ length y)
      × ((p : ℕ) → header_length (count x) ≤ p → ((q c : ℕ) → Protected x q c → c ≡ p → ⊥) → at z p ≡ at y p)
      × ((p : ℕ) → p < header_length (count x) → at z p ≡ at x p)
      × ((q c : ℕ) → Protected x q c → at z c ≡ at x c)
  scrub_agrees r z scrubs =
      let o = demands.scrub_agrees x y (as_scan m.report) m.stored m.whole bytes (run.mended x m y mends) in
      let e = scrubs.leaves in (
        one_scan r m.report (scrubs.answer ∙ o.0),
        ap length e ∙ o.1,
        λ p l n. ap (λ (v : List ℕ). at v p) e ∙ o.2 p l n,
        λ p l. ap (λ (v : List ℕ). at v p) e ∙ o.3 p l,
        λ q c i. ap (λ (v : List ℕ). at v c) e ∙ o.4 q c i,
      )

-- ---- scrub of any x answered r and left y

-- A byte that changed lay, at that moment, in a word of a protected region, and the word's syndrome was the column of the data bit that it holds.
pub scrub_touches : (x : List ℕ) → Bytes x → (r : Option EccReport) (y : List ℕ) → ScrubsTo x r y → (b : ℕ) → (at y b ≡ at x b → ⊥) → Changes x b
scrub_touches x bytes r y scrubs b n = demands.scrub_touches x bytes b (λ e. n (ap (λ (v : List ℕ). at v b) scrubs.leaves ∙ e))
