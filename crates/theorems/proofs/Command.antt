-- What mend leaves, through the program scrub. Assumes nothing.
use mathlib.Core.Path.{◌≡◌, sym, ap, ◌∙◌, subst}
use mathlib.Core.Bool.{Bool}
use mathlib.Core.List.{List, [], ◌∷◌}
use Rattle.std.specs.Prelude.{Option, Some}
use Prim.Native.Nat.{ℕ, ◌≤◌}
use lib.ListN.{length}
use Rattle.model.specs.Scan.{Report}
use Rattle.model.specs.Mend.{MendAnswer, mended, mend}
use Rattle.model.specs.Programs.{image_out, line_of, stored_line, lines, scrub_image, scrub_text}
use Rattle.model.proofs.ProgramsLaw.{image_short, text_short}
use Rattle.theorems.specs.Damage.{Damaged}

pub scrubbed : (w d : List ℕ) {n k : ℕ} {r : Option Report} {t : Bool} → Damaged n w d → length w ≤ 65536 → mend d ≡ mended w r k t
    → (scrub_image d ≡ w) × (scrub_text d ≡ lines (stored_line k ∷ []))
scrubbed w d {k = k} damage short e =
    let l : length d ≤ 65536 = subst (λ (m : ℕ). m ≤ 65536) (sym damage.size) short in
    (sym (image_short d l) ∙ ap (λ (m : MendAnswer). image_out (Some m)) e, sym (text_short d l) ∙ ap (λ (m : MendAnswer). lines (line_of (Some m) ∷ [])) e)
