use mathlib.Core.Path.{◌≡◌, refl, sym, ap, ◌∙◌}
use mathlib.Core.List.{List, [], ◌∷◌}
use Prim.Native.Nat.{ℕ, zero-le}
use native.Mathlib.Omega.{arith}
use lib.ListN.{length}
use lib.Seq.{take_all}
use Rattle.io.proofs.Counting.{prefix_len_of_le}
use Rattle.model.specs.Programs.{lines, image_out, line_of, mend_within, scrub_image, scrub_line, scrub_text}
use Rattle.findings.specs.Answers.{as_outcome}
use Rattle.std.specs.Prelude.{Result, Ok, Err}
use Rattle.mending.specs.declared.Mending.{Mending}
use Rattle.findings.specs.declared.Rejected.{Rejected}
use Rattle.findings.specs.declared.Rejected.TheVariants.{TooLong, Refused}
use Rattle.put.proofs.LinesLaw.{text_put}
use Rattle.text.proofs.scrub.Goals as goal

-- `text::scrub` meets its contract. Assumes nothing.
-- the line does not tell the image
line_alone : (o : Result Mending Rejected) (y : List ℕ) → line_of (as_outcome o []) ≡ line_of (as_outcome o y)
line_alone (Ok m) y = refl
line_alone (Err TooLong) y = refl
line_alone (Err (Refused r)) y = refl

none_out : (r : Rejected) (y : List ℕ) → image_out (as_outcome (Err r) y) ≡ []
none_out TooLong y = refl
none_out (Refused r) y = refl

said : (x y : List ℕ) (o : Result Mending Rejected) → as_outcome o y ≡ mend_within 65536 x → lines (line_of (as_outcome o []) ∷ []) ≡ scrub_text x
unfolding scrub_text scrub_line
said x y o e = ap (λ (l : List ℕ). lines (l ∷ [])) (line_alone o y ∙ ap line_of e)

written : (x y : List ℕ) (o o' : Result Mending Rejected) → as_outcome o y ≡ mend_within 65536 x → o ≡ o' → image_out (as_outcome o' y) ≡ scrub_image x
unfolding scrub_image
written x y o o' e f = ap (λ (u : Result Mending Rejected). image_out (as_outcome u y)) (sym f) ∙ ap image_out e

pub returns-in-Err : goal.returns-in-Err
returns-in-Err c =
    let a = c.args in
    let x = a.image.now in
    let m = c.mend_within-outcome in
    let line = c.put_outcome-line in
    let l = text_put a.out.now _ _ line.ensures.is (said x m.new.image m.result m.ensures.is) in
    let none = sym (none_out _ m.new.image) ∙ written x m.new.image m.result _ m.ensures.is c.in-Err.is in
    record { is = l.0; says = l.1; leaves = m.ensures.leaves; writes = (ap length none, none); fits = (prefix_len_of_le _ _ (omega (arith, line.ensures.few, line.ensures.is.long)), prefix_len_of_le 0 m.new.image zero-le) }

pub returns-in-Ok : goal.returns-in-Ok
returns-in-Ok c =
    let a = c.args in
    let x = a.image.now in
    let m = c.mend_within-outcome in
    let line = c.put_outcome-line in
    let l = text_put a.out.now _ _ line.ensures.is (said x m.new.image m.result m.ensures.is) in
    let all = written x m.new.image m.result _ m.ensures.is c.in-Ok.is in
    record { is = l.0; says = l.1; leaves = m.ensures.leaves; writes = (ap length all, take_all (length m.new.image) m.new.image (omega arith) ∙ all); fits = (prefix_len_of_le _ _ (omega (arith, line.ensures.few, line.ensures.is.long)), prefix_len_of_le _ _ (omega arith)) }
