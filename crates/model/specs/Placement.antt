-- What a placement says of an image, in the words of the rule. (FORMAT 10)
use Rattle.std.specs.Prelude.{◌≡◌, List, ℕ, ◌≤◌, ◌<◌, Some}
use Rattle.model.specs.Refusals.{fine}
use Rattle.model.specs.Layout.{count, header_length, directory, Entry, start}
use Rattle.model.specs.Views.{nth}
use Rattle.model.specs.Parse.{accepted, refused, parse, parse_verdict}
use Rattle.model.specs.Mend.{InRegion, LaidApart, FirstMisplaced, Placement, placed_apart, over_header, over_region, refused_placement}

-- ---- of a directory es of n entries

-- entry i is non-empty and starts inside the header
pub record OnHeader (n : ℕ) (es : List Entry) (i : ℕ) : Type 0 where
  pub entry : Entry
  pub there : nth i es ≡ Some entry
  pub holds : 0 < entry.words
  pub inside : start entry < header_length n

-- entry i does not start inside the header; it shares a byte with the earlier entry j, and with none before j
pub record OnRegion (n : ℕ) (es : List Entry) (i j : ℕ) : Type 0 where
  pub entry : Entry
  pub other : Entry
  pub there : nth i es ≡ Some entry
  pub stands : nth j es ≡ Some other
  pub behind : header_length n ≤ start entry
  pub earlier : j < i
  pub shared : (b : ℕ) × InRegion entry b × InRegion other b
  pub lowest : (k : ℕ) → k < j → (f : Entry) → nth k es ≡ Some f → (b : ℕ) → InRegion entry b → InRegion f b → ⊥

-- ---- of an image

abbrev pub TrueOf : List ℕ → Placement → Type 0
TrueOf x (placed_apart h) = (parse x ≡ accepted h) × LaidApart (count x) (directory x)
TrueOf x (over_header i) = (parse_verdict x ≡ fine) × FirstMisplaced (count x) (directory x) i × OnHeader (count x) (directory x) i
TrueOf x (over_region i j) = (parse_verdict x ≡ fine) × FirstMisplaced (count x) (directory x) i × OnRegion (count x) (directory x) i j
TrueOf x (refused_placement n d) = parse x ≡ refused n d
