-- What an answer that a `match` took apart says of the numbers that are handed to C. Assumes nothing.
use mathlib.Core.Path.{◌≡◌, refl, sym, ap, ◌∙◌}
use mathlib.Core.Bool.{Bool, true, false}
use mir.Val.{bool_byte}
use Rattle.bits.specs.Bit.{num}

-- r is the answer, which stands for o, and s what the arm found it to be
pub told : {A B C : Type 0} (g : B → C) (f : A → B) {r s : A} {o : B} → f r ≡ o → r ≡ s → g (f s) ≡ g o
told g f e d = ap g (sym (ap f d) ∙ e)

-- a yes or no that is cast to a number
pub yes_no : (b : Bool) → bool_byte b ≡ num b
yes_no true = refl
yes_no false = refl
