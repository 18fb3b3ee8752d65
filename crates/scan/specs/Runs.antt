-- Steps of code, for the contracts of building blocks that other crates call; no statement of the demands speaks of them. The examined words of an entry, as one run. (FORMAT 7)
use Rattle.std.specs.Prelude.{◌≡◌, true, List, [], ◌∷◌, ℕ, ◌+◌, ◌*◌, ◌^◌, ◌≤◌, ◌<◌, min, length, Option, None, Some}
use Rattle.model.specs.Views.{entries_for, region_at}
use Rattle.model.specs.Scan.{Visit, Codeword, codewords_from, codewords_in}
use Rattle.model.specs.Scrub.{visit_at}
use Rattle.model.specs.Steps.{any_of}
use Rattle.scan.specs.declared.runs.ProtectedRun.{ProtectedRun}

-- the visit of entry i of x, if it has one, with a count n of regions that stands beside x
abbrev pub visits_at : ℕ → List ℕ → ℕ → List Visit
visits_at n x i = visit_at (length x) (entries_for n x) (region_at n x i)

-- the run of a visit
abbrev pub run_of : Visit → ProtectedRun
run_of v =
    record { word = v.region.offset; check = 8 * v.plane.offset; words = min v.region.words (8 * v.plane.words) }

-- the run of the first visit, if there is one
abbrev pub first_run : List Visit → Option ProtectedRun
first_run [] = None
first_run (v ∷ vs) = Some (run_of v)

-- the words of a run, each with its check byte
abbrev pub codewords_of : ProtectedRun → List Codeword
codewords_of r = codewords_from r.words r.word r.check

-- the words and check bytes of a run lie in x
pub record Fits (x : List ℕ) (r : ProtectedRun) : Type 0 where
  pub words : 8 * (r.word + r.words) ≤ length x
  pub checks : r.check + r.words ≤ length x

-- r is the run of the visits vs of x, which are one: so it has their words
pub record IsRunOf (x : List ℕ) (vs : List Visit) (r : ProtectedRun) : Type 0 where
  pub is : Some r ≡ first_run vs
  pub codewords : codewords_of r ≡ codewords_in vs
  pub visits : any_of vs ≡ true
  pub fits : Fits x r
  pub few : r.words < 2 ^ 32

-- o is the run of the visits vs of x, which are one or none
abbrev pub IsRun : List ℕ → List Visit → Option ProtectedRun → Type 0
IsRun x vs None = vs ≡ []
IsRun x vs (Some r) = IsRunOf x vs r
