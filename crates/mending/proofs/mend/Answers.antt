use mathlib.Core.Path.{◌≡◌, refl, sym, ap, ◌∙◌}
use mathlib.Core.List.{List}
use Prim.Native.Nat.{ℕ}
use Rattle.std.specs.Prelude.{Ok, Err}
use Rattle.model.specs.Mend as model
use Rattle.model.specs.Mend.{placement_verdict}
use Rattle.error.specs.Refused.{number_of, detail_of}
use Rattle.error.proofs.PassedOn.{err_is}
use Rattle.view.proofs.AnswersLaw.{parsed_count}
use Rattle.overlap.specs.declared.Misplaced.{Misplaced}
use Rattle.overlap.specs.Answers.{as_placement, refusal_of}
use Rattle.overlap.proofs.AnswersLaw.{placed_verdict, placed_parse, misplaced}
use Rattle.mending.specs.Answers.{as_mended, left_by}
use Rattle.mending.proofs.MendingLaw.{mend_refused, mend_fine}
use Rattle.mending.proofs.AgreeLaw.{parsed_wanted}
use Rattle.mending.proofs.mend.Goals as goal

-- `mending::mend` meets its contract. Assumes nothing.
-- an image that is misplaced by m
refused : (x : List ℕ) (m : Misplaced) → as_placement (Err m) ≡ model.placement x
    → (model.refused_mend (number_of (refusal_of m)) (detail_of (refusal_of m)) ≡ model.mend x) × (x ≡ left_by (model.mend x) x)
refused x m e =
    let f = mend_refused x _ _ (placed_verdict x (Err m) e ∙ misplaced m) in
    (sym f, ap (λ (q : model.MendAnswer). left_by q x) (sym f))

pub returns-in_err-header : goal.returns-in_err-header
returns-in_err-header c =
    let x = c.args.bytes.now in
    let m = c.in_err-header.field-0.0 in
    let e = refused x m (ap as_placement (sym c.in_err-header.was) ∙ c.check_placement.ensures) in
    record { is = ap (λ r. as_mended r x) (err_is _ (refusal_of m) c.from_residual.ensures.1) ∙ e.0; leaves = e.1 }

pub mend_apart-requires : goal.mend_apart-requires
mend_apart-requires c =
    let r = c.check_placement in
    let x = c.args.bytes.now in
    let h = c.in_ok-header.header in
    let p = placed_parse x r.result r.ensures h c.in_ok-header.was in (
      record { regions = parsed_count x (Ok h) p h refl; accepted = placed_verdict x r.result r.ensures ∙ ap (λ q. placement_verdict (as_placement q)) c.in_ok-header.was },
      parsed_wanted x (Ok h) p h refl,
    )

pub returns : goal.returns
returns c =
    let m = c.mend_apart in
    let r = c.check_placement in
    let x = c.args.bytes.now in
    let v = placed_verdict x r.result r.ensures ∙ ap (λ q. placement_verdict (as_placement q)) c.in_ok-header.was in
    record { is = m.ensures.is; leaves = m.ensures.leaves ∙ ap (λ (q : model.MendAnswer). left_by q x) (sym (mend_fine x v)) }
