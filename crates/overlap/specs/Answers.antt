-- The model's reading of the answers. (FORMAT 10)
use Rattle.std.specs.Prelude.{Bool, true, false, ℕ, Option, None, Some, Result, Ok, Err}
use Rattle.model.specs.Mend as model
use Rattle.error.specs.declared.Refusal.{Refusal}
use Rattle.error.specs.declared.Refusal.TheVariants.{OverlappingRegions}
use Rattle.error.specs.Refused.{number_of, detail_of}
use Rattle.view.specs.declared.header.Header.{Header}
use Rattle.view.specs.Answers.{as_header}
use Rattle.overlap.specs.declared.Misplaced.{Misplaced}
use Rattle.overlap.specs.declared.Misplaced.TheVariants.{OnHeader, OnRegion, Refused}

abbrev pub as_placement : Result Header Misplaced → model.Placement
as_placement (Ok h) = model.placed_apart (as_header h)
as_placement (Err (OnHeader i)) = model.over_header i
as_placement (Err (OnRegion i j)) = model.over_region i j
as_placement (Err (Refused r)) = model.refused_placement (number_of r) (detail_of r)

-- mend's refusal: 12 with the index of the misplaced entry, or parse's
abbrev pub refusal_of : Misplaced → Refusal
refusal_of (OnHeader i) = OverlappingRegions i
refusal_of (OnRegion i j) = OverlappingRegions i
refusal_of (Refused r) = r

-- what entry i lies on: whether it starts inside the header, and the earlier entry that it meets
abbrev pub overlap_as : ℕ → Bool → Option ℕ → Result Unit Misplaced
overlap_as i true o = Err (OnHeader i)
overlap_as i false (Some j) = Err (OnRegion i j)
overlap_as i false None = Ok tt
