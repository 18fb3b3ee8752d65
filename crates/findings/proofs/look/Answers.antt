use mathlib.Core.Path.{◌≡◌, ap, ap₂, ◌∙◌}
use mathlib.Core.Bool.{Bool}
use Rattle.std.specs.Prelude.{Option}
use Prim.Native.Nat.{ℕ}
use Rattle.model.specs.Refusals.{fine}
use Rattle.model.specs.Layout.{count}
use Rattle.model.specs.Parse.{Parsed, parse_verdict}
use Rattle.model.specs.Scan.{Report, scan_in, scan}
use Rattle.model.specs.Programs.{image, found_in}
use Rattle.model.proofs.ProgramsLaw.{look_long, look_short}
use Rattle.view.proofs.AnswersLaw.{parsed_fine, parsed_count}
use Rattle.scan.proofs.VisitLaw.{scan_is}
use Rattle.error.proofs.PassedOn.{err_is}
use Rattle.findings.specs.declared.Rejected.TheVariants.{Refused}
use Rattle.findings.specs.Answers.{as_found}
use Rattle.findings.proofs.look.Goals as goal

-- `findings::look` meets its contract. Assumes nothing.
pub returns-then-image-limit : goal.returns-then-image-limit
returns-then-image-limit c = let a = c.args in look_long a.limit a.image.now c.if-image-limit.true

pub returns-in_err-header : goal.returns-in_err-header
returns-in_err-header c =
    let a = c.args in
    let x = a.image.now in
    ap as_found (err_is _ (Refused c.in_err-header.field-0.0) c.from_residual.ensures.1)
    ∙ ap (λ (o : Parsed). found_in o (scan x)) c.in_err-header.ensures ∙ look_short a.limit x c.if-image-limit.false

pub returns : goal.returns
returns c =
    let a = c.args in
    let x = a.image.now in
    let p = c.parse in
    let h = c.in_ok-header.header in
    let is = c.in_ok-header.was in
    let n : h.region_count ≡ count x = parsed_count x p.result p.ensures h is in
    let f : parse_verdict x ≡ fine = parsed_fine x p.result p.ensures h is in
    let scanned = c.verify_all.ensures ∙ ap (λ (m : ℕ). scan_in m x) n ∙ scan_is x f in
    ap₂ (λ (b : Bool) (s : Option Report). image h.region_count b s) c.needs_scrub.ensures scanned
    ∙ ap (λ (o : Parsed). found_in o (scan x)) c.in_ok-header.ensures ∙ look_short a.limit x c.if-image-limit.false
