-- What is found in an image, and made of it, that is longer than it may be, and in one that is not; what scrub prints of the latter. Assumes nothing.
use mathlib.Core.Path.{◌≡◌, sym, ap}
use mathlib.Core.Bool.{Bool, cond}
use mathlib.Core.List.{List, [], ◌∷◌}
use Rattle.std.specs.Prelude.{Option, None, Some}
use Prim.Native.Nat.{ℕ, ◌≤◌, ◌<◌}
use lib.ListN.{length}
use borrow.Author.Tests.{lt-ltb, le-ltb}
use Rattle.model.specs.Parse.{parse}
use Rattle.model.specs.Scan.{scan}
use Rattle.model.specs.Mend.{MendAnswer, mend}
use Rattle.model.specs.Programs.{too_long, found_in, look, lines, mend_within, image_out, line_of, scrub_image, scrub_line, scrub_text}

module _ (limit : ℕ) (x : List ℕ) (long : limit < length x) where
  pub look_long : too_long ≡ look limit x
  unfolding look
  look_long = sym (ap (λ (t : Bool). cond t too_long (found_in (parse x) (scan x))) (lt-ltb limit (length x) long))

  pub mend_long : None ≡ mend_within limit x
  unfolding mend_within
  mend_long = sym (ap (λ (t : Bool). cond t None (Some (mend x))) (lt-ltb limit (length x) long))

module _ (limit : ℕ) (x : List ℕ) (short : length x ≤ limit) where
  pub look_short : found_in (parse x) (scan x) ≡ look limit x
  unfolding look
  look_short = sym (ap (λ (t : Bool). cond t too_long (found_in (parse x) (scan x))) (le-ltb limit (length x) short))

  pub mend_short : Some (mend x) ≡ mend_within limit x
  unfolding mend_within
  mend_short = sym (ap (λ (t : Bool). cond t None (Some (mend x))) (le-ltb limit (length x) short))

pub image_short : (x : List ℕ) → length x ≤ 65536 → image_out (Some (mend x)) ≡ scrub_image x
unfolding scrub_image
image_short x short = ap image_out (mend_short 65536 x short)

-- scrub's line, as it is printed
pub text_short : (x : List ℕ) → length x ≤ 65536 → lines (line_of (Some (mend x)) ∷ []) ≡ scrub_text x
unfolding scrub_text scrub_line
text_short x short = ap (λ (o : Option MendAnswer). lines (line_of o ∷ [])) (mend_short 65536 x short)
