-- What a run says of the definitions. Assumes nothing.
use mathlib.Core.Path.{◌≡◌, refl, sym, ap, ap₂, ◌∙◌, subst}
use mathlib.Core.List.{List, [], ◌∷◌, ◌++◌}
use mathlib.Core.Logic.{◌⊎◌}
use Prim.Native.Nat.{ℕ}
use native.Mathlib.Omega.{arith}
use contract.Lifetimes.{Lfts}
use Rattle.writer.proofs.OneAnswer.{one_written}
use Rattle.writer.proofs.write.Reads as writes
use lib.ListN.{length, take, drop}
use lib.Seq.{take-append_seam}
use Rattle.model.specs.Refusals.{Verdict, fine, refuse}
use Rattle.model.specs.Parse.{parse, refused}
use Rattle.model.specs.Scrub as scrubs
use Rattle.model.specs.Mend as model
use Rattle.model.specs.Writer as plan
use Rattle.lemmas.proofs.PlanLaw.{plan_ok}
use Rattle.lemmas.proofs.ImageLaw.{written_length}
use Rattle.error.specs.Refused.{number_of, detail_of}
use Rattle.error.specs.declared.Refusal.{Refusal}
use Rattle.scan.specs.Answers.{as_scan}
use Rattle.scan.proofs.OneAnswer.{one_scan}
use Rattle.plan.specs.Rows.{as_row, as_plan}
use Rattle.writer.specs.Answers.{as_written, answer_of, bytes_after, wrote}
use Rattle.writer.specs.Answers as plan-answer
use Rattle.plan.specs.declared.rows.Row.{Row}
use Rattle.mending.proofs.mend.Reads as mend
use Rattle.scrubbing.proofs.scrub.Reads as scrub
use Rattle.mending.specs.Answers.{as_mended, left_by}
use Rattle.mending.specs.declared.Mending.{Mending}
use Rattle.text.proofs.scrub.Reads as command
use Rattle.theorems.proofs.ScrubTouches as steps
use Rattle.theorems.specs.Runs.{Writes, MendsTo, ScrubsTo, Prints}
use Rattle.std.specs.Prelude.{Option, None, Result, Ok, Err}
use Rattle.ecc.specs.declared.EccReport.{EccReport}

-- ---- a run is what the function's own contract gives its callers

pub mend_promised : (κs : Lfts 1) (a : _) (r : _) (ws : _) → mend.Learnt κs a r ws → MendsTo a.0.now r ws.0.now
mend_promised κs a r ws p = record { answer = p.0; leaves = p.1 }

pub scrub_promised : (κs : Lfts 1) (a : _) (r : _) (ws : _) → scrub.Learnt κs a r ws → ScrubsTo a.0.now r ws.0.now
scrub_promised κs a r ws p = record { answer = p.0; leaves = p.1 }

pub command_promised : (κs : Lfts 2) (a : _) (r : _) (ws : _) → command.Learnt κs a r ws → Prints a.0.now a.1.0.now r ws.0.now ws.1.0.now
command_promised κs a r ws p = record { written = p.1.1.1.0.1; said = p.1.0 }

pub write_promised : (κs : Lfts 3) (a : _) (r : _) (s : _) → writes.Learnt κs a r s → Writes a.0.now a.1.0.now a.1.1.0.now r s.1.1.0.now
write_promised κs a r s p = record { answer = p.0; leaves = p.1 }

-- ---- the writer wrote n bytes

written_as : (w : plan.Written) (n : ℕ) (out after : List ℕ) → wrote n ≡ answer_of w → after ≡ bytes_after w out → w ≡ plan.image (take n after)
written_as (plan.image x) n out after e f =
    let l : n ≡ length x = cc in
    ap plan.image (sym (ap (λ (m : ℕ). take m after) l ∙ ap (take (length x)) f ∙ take-append_seam x (drop (length x) out)))
written_as (plan.refused_plan k d) n out after e f = let z : ◌≡◌ {A = ℕ} 0 1 = cc in absurd (omega arith)

pub written : (rows : List Row) (payload out : List ℕ) (n : ℕ) (after : List ℕ) → Writes rows payload out (Ok n) after
    → plan.write (as_plan rows) payload (length out) ≡ plan.image (take n after)
written rows payload out n after u = written_as (plan.write (as_plan rows) payload (length out)) n out after u.answer u.leaves

-- rows are their plan
pub same_rows : (rs qs : List Row) → as_plan rs ≡ as_plan qs → rs ≡ qs
unfolding as_plan
same_rows [] [] e = refl
same_rows [] (q ∷ qs) e = let z : ◌≡◌ {A = ℕ} 0 1 = cc in absurd (omega arith)
same_rows (r ∷ rs) [] e = let z : ◌≡◌ {A = ℕ} 0 1 = cc in absurd (omega arith)
same_rows (r ∷ rs) (q ∷ qs) e =
    let f : as_row r ≡ as_row q = cc in
    let g : as_plan rs ≡ as_plan qs = cc in
    let s : r ≡ q = ap (λ (p : plan.Row). record { kind = p.kind; flags = p.flags; words = p.words }) f in
    ap₂ (λ (p : Row) (ps : List Row). p ∷ ps) s (same_rows rs qs g)

-- ---- mend mended

pub mended : (x : List ℕ) (m : Mending) (y : List ℕ) → MendsTo x (Ok m) y → model.mend x ≡ model.mended y (as_scan m.report) m.stored m.whole
mended x m y u = sym u.answer

-- an answer that is known leaves known bytes
pub mends_to : (x : List ℕ) (r : Result Mending Refusal) (y : List ℕ) (o : model.MendAnswer) → MendsTo x r y → model.mend x ≡ o → (y ≡ left_by o x) × (as_mended r y ≡ o)
mends_to x r y o u e = (u.leaves ∙ ap (λ (m : model.MendAnswer). left_by m x) e, u.answer ∙ e)

refused_as : (o : model.MendAnswer) (k d : ℕ) (x : List ℕ) → model.refused_mend k d ≡ o → left_by o x ≡ x
refused_as (model.refused_mend k' d') k d x e = refl
refused_as (model.mended z r n w) k d x e = let f : ◌≡◌ {A = ℕ} 0 1 = cc in absurd (omega arith)

pub mend_refused : (x : List ℕ) (r : Refusal) (y : List ℕ) → MendsTo x (Err r) y → y ≡ x
mend_refused x r y u = u.leaves ∙ refused_as (model.mend x) (number_of r) (detail_of r) x u.answer

plan_as : (w : plan.Written) (k d : ℕ) (out : List ℕ) → plan-answer.refused k d ≡ answer_of w → bytes_after w out ≡ out
plan_as (plan.refused_plan k' d') k d out e = refl
plan_as (plan.image x) k d out e = let f : ◌≡◌ {A = ℕ} 0 1 = cc in absurd (omega arith)

pub plan_refused : (rows : List Row) (payload out : List ℕ) (r : Refusal) (after : List ℕ) → Writes rows payload out (Err r) after → after ≡ out
plan_refused rows payload out r after u = u.leaves ∙ plan_as (plan.write (as_plan rows) payload (length out)) (number_of r) (detail_of r) out u.answer

-- ---- what is written, and what is refused

pub plan_written : (rows : List Row) (payload out : List ℕ) (r : Result ℕ Refusal) (after : List ℕ) → Writes rows payload out r after
    → plan.plan_verdict (as_plan rows) payload (length out) ≡ fine
    → (r ≡ Ok (plan.image_length (as_plan rows))) × (after ≡ plan.plan_image (as_plan rows) payload ++ drop (plan.image_length (as_plan rows)) out)
unfolding plan.write
plan_written rows payload out r after u v =
    let rs = as_plan rows in
    let e : length (plan.plan_image rs payload) ≡ plan.image_length rs = written_length rs payload (plan_ok rs payload (length out) v) in
    let w : plan.write_as (plan.plan_verdict rs payload (length out)) (plan.plan_image rs payload) ≡ plan.image (plan.plan_image rs payload) = ap (λ (z : Verdict). plan.write_as z (plan.plan_image rs payload)) v in (
      one_written r (Ok (plan.image_length rs)) (u.answer ∙ ap answer_of w ∙ ap wrote e),
      u.leaves ∙ ap (λ (z : plan.Written). bytes_after z out) w ∙ ap (λ (n : ℕ). plan.plan_image rs payload ++ drop n out) e,
    )

refusal_of : (r : Result ℕ Refusal) (n d : ℕ) → as_written r ≡ plan-answer.refused n d → (s : Refusal) × (r ≡ Err s) × (number_of s ≡ n) × (detail_of s ≡ d)
refusal_of (Ok m) n d e = let f : ◌≡◌ {A = ℕ} 0 1 = cc in absurd (omega arith)
refusal_of (Err s) n d e = let a : number_of s ≡ n = cc in let b : detail_of s ≡ d = cc in (s, refl, a, b)

pub plan_refuses : (rows : List Row) (payload out : List ℕ) (r : Result ℕ Refusal) (after : List ℕ) → Writes rows payload out r after
    → (n d : ℕ) → plan.plan_verdict (as_plan rows) payload (length out) ≡ refuse n d
    → ((s : Refusal) × (r ≡ Err s) × (number_of s ≡ n) × (detail_of s ≡ d)) × (after ≡ out)
unfolding plan.write
plan_refuses rows payload out r after u n d v =
    let rs = as_plan rows in
    let w : plan.write_as (plan.plan_verdict rs payload (length out)) (plan.plan_image rs payload) ≡ plan.refused_plan n d = ap (λ (z : Verdict). plan.write_as z (plan.plan_image rs payload)) v in
    (refusal_of r n d (u.answer ∙ ap answer_of w), u.leaves ∙ ap (λ (z : plan.Written). bytes_after z out) w)

-- ---- scrub says nothing

pub scrub_refused : (x : List ℕ) (n d : ℕ) → parse x ≡ refused n d → (r : Option EccReport) (y : List ℕ) → ScrubsTo x r y → (r ≡ None) × (y ≡ x)
scrub_refused x n d e r y u =
    let s = steps.refused_scrub x n d e in
    (one_scan r None (u.answer ∙ ap (λ (z : scrubs.Scrubbed). z.report) s), u.leaves ∙ ap (λ (z : scrubs.Scrubbed). z.image) s)

pub scrub_says_nothing : (x y : List ℕ) → ScrubsTo x None y → (y ≡ x) ⊎ ((n : ℕ) × (d : ℕ) × (parse y ≡ refused n d))
scrub_says_nothing x y u =
    subst (λ (z : List ℕ). (z ≡ x) ⊎ ((n : ℕ) × (d : ℕ) × (parse z ≡ refused n d))) (sym u.leaves) (steps.nothing_said x (sym u.answer))
