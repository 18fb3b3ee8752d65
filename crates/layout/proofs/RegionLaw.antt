-- A region and the entry it stands for say the same. Assumes nothing.
use mathlib.Core.Path.{◌≡◌, refl}
use Rattle.layout.specs.declared.Region.{Region}
use Rattle.layout.specs.Regions.{region_of, as_entry}

pub region_back : (r : Region) → region_of (as_entry r) ≡ r
region_back r = refl
