-- The line on what is not looked at, or not mended. Assumes nothing.
use mathlib.Core.Path.{◌≡◌, refl}
use mathlib.Core.List.{List, [], ◌∷◌, ◌++◌}
use mathlib.Core.Bool.{Bool}
use Prim.Native.Nat.{ℕ}
use Rattle.std.specs.Prelude.{Err}
use Rattle.model.specs.Programs.{lines, line_of}
use Rattle.findings.specs.declared.Rejected.{Rejected}
use Rattle.findings.specs.declared.Rejected.TheVariants.{TooLong, Refused}
use Rattle.findings.specs.Answers.{as_found, as_outcome}
use Rattle.text.specs.Told.{prefix, first_line, rejected_line, file_lines, mend_text}

pub rejected_first : (r : Rejected) → rejected_line r ≡ first_line (as_found (Err r))
rejected_first TooLong = refl
rejected_first (Refused r) = refl

pub rejected_alone : (name : List ℕ) (several : Bool) (r : Rejected)
    → lines ((prefix name several ++ first_line (as_found (Err r))) ∷ []) ≡ file_lines name several (as_found (Err r))
unfolding file_lines
rejected_alone name several TooLong = refl
rejected_alone name several (Refused r) = refl

pub rejected_said : (r : Rejected) → rejected_line r ≡ line_of (as_outcome (Err r) [])
rejected_said TooLong = refl
rejected_said (Refused r) = refl

pub rejected_told : (r : Rejected) → lines (line_of (as_outcome (Err r) []) ∷ []) ≡ mend_text (as_outcome (Err r) [])
unfolding mend_text
rejected_told TooLong = refl
rejected_told (Refused r) = refl
