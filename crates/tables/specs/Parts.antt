-- The very part of bytes that were lent: where it lies and what it holds. (FORMAT 6)
-- A reference to a slice is a pointer (`ptr`: a block of memory, and an offset in it) and the bytes from there on (`now`).
use Rattle.std.specs.Prelude.{◌≡◌, List, ℕ, ◌+◌, Option, None, Some}
use Rattle.std.specs.Borrow.{Bor}
use Rattle.model.specs.Views.{Range, Span, span, no_span, part_in_lem, part_of}

-- `r` starts n bytes behind the start of `lent`, and holds xs
pub record PartAt (lent r : Bor (List ℕ)) (n : ℕ) (xs : List ℕ) : Type 0 where
  pub block : r.ref_ptr.0 ≡ lent.ref_ptr.0
  pub offset : r.ref_ptr.1 ≡ lent.ref_ptr.1 + n
  pub holds : r.now ≡ xs

-- the offset at which the part in a range starts; the empty slice that stands for no part starts with the bytes
abbrev pub start_in : Option Range → ℕ
start_in None = 0
start_in (Some r) = r.first

-- the offset at which the part in a span starts; 0 where it is refused
abbrev pub start_of : Span → ℕ
start_of (span r) = r.first
start_of (no_span n d) = 0

-- `r` is the very part of `lent` that a range names, and the empty slice at its front for none
abbrev pub VeryPartIn : Bor (List ℕ) → Bor (List ℕ) → Option Range → Type 0
VeryPartIn lent r p = PartAt lent r (start_in p) (part_in_lem lent.now p)

-- `r` is the very part of `lent` that a span names, and the empty slice at its front where it is refused
abbrev pub VeryPartOf : Bor (List ℕ) → Bor (List ℕ) → Span → Type 0
VeryPartOf lent r s = PartAt lent r (start_of s) (part_of lent.now s)
