-- Steps of code, for private contracts; nothing that a reader must believe. What scrub counts. (FORMAT 8)
use Rattle.std.specs.Prelude.{◌≡◌, List, [], ℕ, false, Option}
use Rattle.model.specs.Scan.{Report}
use Rattle.model.specs.Scrub.{State, scrub_visits, reported}
use Rattle.scan.specs.Runs.{visits_at}

-- the report o and the image x as it stands are those of the state s, which has met no word where no region was visited
pub record Stands (o : Option Report) (x : List ℕ) (s : State) : Type 0 where
  pub image : x ≡ s.image
  pub counts : o ≡ reported s
  pub unvisited : s.visited ≡ false → s.met ≡ []

-- region i of the image as it stands, with a count n of regions that stands beside it
unfoldable pub scrub_in : ℕ → ℕ → State → State
scrub_in n i s = scrub_visits (visits_at n s.image i) s
