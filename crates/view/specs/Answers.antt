-- The model's reading of each answer. (FORMAT 5, 6)
use Rattle.std.specs.Prelude.{ℕ, Option, option_map, Result, Ok, Err}
use Rattle.model.specs.Layout.{Entry}
use Rattle.layout.specs.declared.Region.{Region}
use Rattle.layout.specs.Regions.{region_of}
use Rattle.model.specs.Refusals.{Verdict, fine, refuse}
use Rattle.model.specs.Parse.{Parsed, accepted, refused}
use Rattle.model.specs.Parse as model
use Rattle.error.specs.declared.Refusal.{Refusal}
use Rattle.error.specs.Refused.{number_of, detail_of}
use Rattle.view.specs.declared.header.Header.{Header}

abbrev pub as_header : Header → model.Header
as_header h =
    record {
      regions = h.region_count;
      prologue_disagreed = h.prologue_disagreed;
      directory_disagreed = h.directory_disagreed;
    }

abbrev pub as_parsed : Result Header Refusal → Parsed
as_parsed (Ok h) = accepted (as_header h)
as_parsed (Err r) = refused (number_of r) (detail_of r)

-- an entry, as the region that is handed out
abbrev pub found_as : Option Entry → Option Region
found_as = option_map region_of

-- ---- steps of code, for private contracts

-- a verdict, with a count where it is fine
pub data CountAnswer : Type 0 where
  fine_with : ℕ → CountAnswer
  refused_with : ℕ → ℕ → CountAnswer

abbrev pub with_count : Verdict → ℕ → CountAnswer
with_count fine n = fine_with n
with_count (refuse k d) n = refused_with k d

abbrev pub as_counted : Result ℕ Refusal → CountAnswer
as_counted (Ok n) = fine_with n
as_counted (Err r) = refused_with (number_of r) (detail_of r)
