-- The checks of a plan one after the other, and what is answered then. Assumes nothing.
use Rattle.std.proofs.Common.{◌≡◌, ℕ, ◌<◌, ◌≤◌, Bool, true, false, ltb, Ok, Err, Result, List, [], ◌∷◌, length, ◌*◌, sym, ap, ◌∙◌, arith, le-ltb, lt-ltb}
use Rattle.std.proofs.lemmas.List.Elements.{All-nil, All-cons}
use Rattle.model.specs.Refusals.{Verdict, fine, refuse, too_many_regions, ◌then◌, refuse_if}
use Rattle.model.specs.Writer as model
use Rattle.model.specs.Writer.{regions, row_words_lem, rows_verdict, image_length, plan_verdict, plan_image, write_as, write}
use Rattle.lemmas.proofs.AppendLaw.{put_over}
use Rattle.lemmas.proofs.PlanLaw.{RowsOK, plan_ok}
use Rattle.lemmas.proofs.VerdictLaw.{passed, passed_both}
use Rattle.error.specs.declared.Refusal.{Refusal}
use Rattle.error.specs.declared.Refusal.TheVariants.{TooManyRegions}
use Rattle.error.specs.Refused.{as_verdict}
use Rattle.put.specs.Put.{Put}
use Rattle.plan.specs.declared.rows.Row.{Row}
use Rattle.plan.specs.Rows.{as_plan}
use Rattle.plan.specs.Sizes.{sizes_verdict}
use Rattle.plan.proofs.SizesLaw.{fine_room}
use Rattle.writer.specs.Answers.{wrote, as_written, answer_of, bytes_after}
use Rattle.writer.specs.Directory.{LowKinds}
use Rattle.writer.proofs.ImageLaw.{image_length_lem}

module _ (rs : List model.Row) (payload : List ℕ) (room : ℕ) where
  -- ---- the verdict, check by check

  -- a row is refused
  pub row_refused : (e : Refusal) → as_verdict e ≡ rows_verdict 0 [] rs → as_verdict e ≡ plan_verdict rs payload room
  unfolding plan_verdict sizes_verdict
  row_refused e h = ap (λ (v : Verdict). v then refuse_if (ltb 1024 (regions rs)) too_many_regions (regions rs) then sizes_verdict rs payload room) h

  module _ (f : fine ≡ rows_verdict 0 [] rs) where
    counted : (t : Bool) → ltb 1024 (regions rs) ≡ t → (refuse_if t too_many_regions (regions rs) then sizes_verdict rs payload room) ≡ plan_verdict rs payload room
    unfolding plan_verdict sizes_verdict
    counted t e =
        ap (λ (z : Bool). refuse_if z too_many_regions (regions rs) then sizes_verdict rs payload room) (sym e)
        ∙ ap (λ (v : Verdict). v then refuse_if (ltb 1024 (regions rs)) too_many_regions (regions rs) then sizes_verdict rs payload room) f

    pub too_many : (n : ℕ) → n ≡ regions rs → 1024 < n → as_verdict (TooManyRegions n) ≡ plan_verdict rs payload room
    too_many n e h = ap (refuse too_many_regions) e ∙ counted true (lt-ltb 1024 (regions rs) (omega (arith, e, h)))

    -- what is left is a matter of sizes
    pub by_sizes : (n : ℕ) → n ≡ regions rs → n ≤ 1024 → sizes_verdict rs payload room ≡ plan_verdict rs payload room
    by_sizes n e h = counted false (le-ltb 1024 (regions rs) (omega (arith, e, h)))

  module _ (f : plan_verdict rs payload room ≡ fine) where
    pub has_room : image_length rs ≤ room
    unfolding plan_verdict sizes_verdict
    has_room =
        let a = passed_both (rows_verdict 0 [] rs) (refuse_if (ltb 1024 (regions rs)) 6 (regions rs) then sizes_verdict rs payload room) f in
        fine_room rs payload room (passed (ltb 1024 (regions rs)) 6 (regions rs) (sizes_verdict rs payload room) a.1).1

-- ---- the answer

module _ (rs : List model.Row) (payload out : List ℕ) where
  abbrev pub Told : Result ℕ Refusal → List ℕ → Type 0
  Told r after = (as_written r ≡ answer_of (write rs payload (length out))) × (after ≡ bytes_after (write rs payload (length out)) out)

  pub told_refused : (e : Refusal) → as_verdict e ≡ plan_verdict rs payload (length out) → Told (Err e) out
  unfolding write
  told_refused e h = (ap (λ (v : Verdict). answer_of (write_as v (plan_image rs payload))) h, ap (λ (v : Verdict). bytes_after (write_as v (plan_image rs payload)) out) h)

  pub told_written : {n : ℕ} {after : List ℕ} → plan_verdict rs payload (length out) ≡ fine → Put out 0 (plan_image rs payload) n after → Told (Ok n) after
  unfolding write
  told_written {n} {after} f q =
      let s : length (plan_image rs payload) ≤ length out = omega (arith, has_room rs payload (length out) f, image_length_lem rs payload (plan_ok rs payload (length out) f).full) in
      let l : n ≡ length (plan_image rs payload) = omega (arith, q.behind) in (
        ap wrote l ∙ ap (λ (v : Verdict). answer_of (write_as v (plan_image rs payload))) (sym f),
        q.stored ∙ put_over out (plan_image rs payload) s ∙ ap (λ (v : Verdict). bytes_after (write_as v (plan_image rs payload)) out) (sym f),
      )

-- ---- what the parts of an accepted plan's image ask

pub low_kinds : (rows : List Row) → RowsOK (as_plan rows) → LowKinds rows
unfolding as_plan
low_kinds [] o = All-nil (λ (r : Row). r.kind < 0x8000)
low_kinds (r ∷ rows) (RowsOK.cons k f n o) = All-cons (λ (r : Row). r.kind < 0x8000) r rows k (low_kinds rows o)

pub record Sized (rows : List Row) (count : ℕ) (payload out : List ℕ) : Type 0 where
  pub small : count ≤ 1024
  pub counted : count ≡ regions (as_plan rows)
  pub low_kinds : LowKinds rows
  pub full : length payload ≡ 8 * row_words_lem (as_plan rows)
  pub fits : image_length (as_plan rows) ≤ 8388608
  pub room : image_length (as_plan rows) ≤ length out

pub sized : (rows : List Row) (count : ℕ) (payload out : List ℕ) → count ≡ regions (as_plan rows) → plan_verdict (as_plan rows) payload (length out) ≡ fine → Sized rows count payload out
sized rows count payload out e f =
    let p = plan_ok (as_plan rows) payload (length out) f in
    record {
      small = omega (arith, e, p.few);
      counted = e;
      low_kinds = low_kinds rows p.rows;
      full = p.full;
      fits = p.small;
      room = has_room (as_plan rows) payload (length out) f;
    }
