-- Bytes stored from a buffer's front on. Assumes nothing.
use mathlib.Core.Path.{◌≡◌, ap, ◌∙◌}
use mathlib.Core.List.{List, ◌++◌}
use Prim.Native.Nat.{ℕ, ◌+◌, ◌≤◌}
use native.Mathlib.Omega.{arith}
use lib.ListN.{length, drop}
use lib.Seq.{sets, sets-eq}
use Rattle.lemmas.specs.Steps.{over}

pub put_over : (o a : List ℕ) → length a ≤ length o → sets o 0 a ≡ over a o
put_over o a h =
    let z : 0 + length a ≡ length a = omega arith in
    sets-eq a o 0 (omega arith) ∙ ap (λ (k : ℕ). a ++ drop k o) z
