use mathlib.Core.Path.{refl, ap₂, ◌∙◌}
use mathlib.Core.List.{[], ◌∷◌}
use Prim.Native.Nat.{ℕ}
use Rattle.kw.specs.Regions.{place_numbers, as_found}
use Rattle.kw.proofs.Told.{told}
use Rattle.kw.proofs.regions.place_numbers.Goals as goal

-- `kw::regions::place_numbers` meets its contract. Assumes nothing.
pub returns-in-Some : goal.returns-in-Some
returns-in-Some c =
    ap₂ (λ (a b : ℕ). 1 ∷ a ∷ b ∷ c.in-Some.r.flags ∷ []) c.byte_offset.ensures c.byte_end.ensures
    ∙ told place_numbers as_found refl c.in-Some.is
