use mathlib.Core.Path.{◌≡◌, sym, ap, ap₂, ◌∙◌}
use mathlib.Core.Bool.{Bool}
use mathlib.Core.List.{List}
use Rattle.std.specs.Prelude.{Option, None, Some}
use Rattle.std.specs.Option.{UnwrapsOrElse}
use Prim.Native.Nat.{ℕ, ◌+◌}
use native.Mathlib.Omega.{arith}
use Rattle.model.specs.Bytes.{Bytes}
use Rattle.model.specs.Refusals.{fine}
use Rattle.model.specs.Scan.{Report, scan}
use Rattle.model.specs.Mend as model
use Rattle.model.specs.Mend.{mend_verdict, changed, mend_bytes}
use Rattle.lemmas.specs.Steps.{mend_header, mend_words}
use Rattle.ecc.specs.declared.EccReport.{EccReport}
use Rattle.scan.specs.Answers.{as_scan}
use Rattle.scan.specs.Tally.{or_zeros}
use Rattle.mending.proofs.VoteLaw.{changed_most}
use Rattle.mending.proofs.MendingLaw.{after_header, mended_all, header_scan, all_stored, mend_fine}
use Rattle.mending.proofs.mend_apart.Goals as goal

-- `mending::mend_apart` meets its contract. Assumes nothing.
pub mend_words-report-requires : goal.mend_words-report-requires
mend_words-report-requires c =
    let h = c.mend_header-in_header in
    let x = c.args.bytes.now in
    let k = after_header x c.requires.0.accepted (record { small = λ p. omega (arith, (c.slice_known-1.given p).fits) }) c.args.header.region_count h.new.bytes c.requires.0.regions h.ensures.leaves in
    record { regions = k.0; accepted = k.1 }

corrected_in : (o : Option EccReport) (d : EccReport) → UnwrapsOrElse o (λ z. (z.words ≡ 0) × ((z.corrected ≡ 0) × (z.uncorrectable ≡ 0))) d
    → d.corrected ≡ (or_zeros (as_scan o)).corrected
corrected_in None d h = h.1.0
corrected_in (Some r) d h = ap (λ (q : EccReport). q.corrected) h

-- header bytes and corrected words make up what is stored
module _ (x y : List ℕ) (v : mend_verdict x ≡ fine) (b : Bytes x) (h : ℕ) (e : y ≡ mend_header x) (n : h ≡ changed x y) (o : Option EccReport) (f : as_scan o ≡ scan y) where
  as_scanned : as_scan o ≡ scan x
  as_scanned = f ∙ ap scan e ∙ header_scan x v b

  stored : (d : EccReport) → d.corrected ≡ (or_zeros (as_scan o)).corrected → h + d.corrected ≡ changed x (mend_bytes x)
  stored d z = all_stored x v b h d.corrected (n ∙ ap (changed x) e) (z ∙ ap (λ (p : Option Report). (or_zeros p).corrected) as_scanned)

pub overflow_add-result : goal.overflow_add-result
overflow_add-result c =
    let w = c.mend_words-report in
    let h = c.mend_header-in_header in
    let x = c.args.bytes.now in
    let e = stored x h.new.bytes c.requires.0.accepted (record { small = λ p. omega (arith, (c.slice_known-1.given p).fits) }) h.result h.ensures.leaves h.ensures.counts w.result w.ensures.tells c.unwrap_or_default.result (corrected_in w.result _ c.unwrap_or_default.ensures) in
    omega (arith, e, changed_most x (mend_bytes x))

pub returns : goal.returns
returns c =
    let d = c.unwrap_or_default in
    let w = c.mend_words-report in
    let h = c.mend_header-in_header in
    let x = c.args.bytes.now in
    let v = c.requires.0.accepted in
    let bx : Bytes x = record { small = λ p. omega (arith, (c.slice_known-1.given p).fits) } in
    let told : as_scan w.result ≡ scan x = as_scanned x h.new.bytes v bx h.result h.ensures.leaves h.ensures.counts w.result w.ensures.tells in
    let left : w.new.bytes ≡ mend_bytes x = w.ensures.leaves ∙ ap mend_words h.ensures.leaves ∙ mended_all x v bx in record {
      is = ap₂ (λ (y : List ℕ) (o : Option Report). model.mended y o (h.result + d.result.corrected) c.is_whole.result) left told
          ∙ ap₂ (λ (n : ℕ) (t : Bool). model.mended (mend_bytes x) (scan x) n t)
          (stored x h.new.bytes v bx h.result h.ensures.leaves h.ensures.counts w.result w.ensures.tells d.result (corrected_in w.result d.result d.ensures))
          (c.is_whole.ensures ∙ ap model.none_uncorrectable told)
          ∙ sym (mend_fine x v);
      leaves = left;
    }
