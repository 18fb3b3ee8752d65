-- A part that is found lies within the bytes, and the slice that is cut from them there is the part that the model's answer names. Assumes nothing.
use Rattle.std.proofs.Common.{◌≡◌, ℕ, List, subst, ◌≤◌, Option, Some, None, Result, Ok, Err, IfSome}
use Rattle.std.specs.Result.{result_ok}
use denote.Ref.{Bor}
use Rattle.model.specs.Views.{Range, range, Span, span}
use Rattle.error.specs.declared.Refusal.{Refusal}
use Rattle.tables.specs.declared.Place.{Place}
use Rattle.tables.specs.Answers.{as_place, as_span}
use Rattle.tables.specs.Parts.{VeryPartIn, VeryPartOf}
use Rattle.tables.proofs.Within.{Within}

-- a place as `part_at` asks for it
abbrev pub Inside : ℕ → Place → Type 0
Inside n r = (r.start ≤ r.end) × (r.end ≤ n)

pub place_inside : (n : ℕ) (o : Option Place) (p : Option Range) → as_place o ≡ p
    → ((s t : ℕ) → Some (range s t) ≡ p → Within n s t) → IfSome o (Inside n)
place_inside n None p e f = tt
place_inside n (Some r) p e f = f r.start r.end e

pub span_inside : (n : ℕ) (o : Result Place Refusal) (p : Span) → as_span o ≡ p
    → ((s t : ℕ) → span (range s t) ≡ p → Within n s t) → IfSome (result_ok o) (Inside n)
span_inside n (Err r) p e f = tt
span_inside n (Ok r) p e f = f r.start r.end e

pub of_span : (lent r : Bor (List ℕ)) (res : Result Place Refusal) (o : Option Place) (p : Span) → o ≡ result_ok res
    → as_span res ≡ p → VeryPartIn lent r (as_place o) → VeryPartOf lent r p
of_span lent r res o p e f h = subst (λ s. VeryPartOf lent r s) f (go res (subst (λ s. VeryPartIn lent r (as_place s)) e h))
  where
    go : (res : Result Place Refusal) → VeryPartIn lent r (as_place (result_ok res)) → VeryPartOf lent r (as_span res)
    go (Ok p) h = h
    go (Err x) h = h
