use mathlib.Core.Path.{refl, ap₂, ◌∙◌}
use mathlib.Core.List.{[], ◌∷◌}
use Prim.Native.Nat.{ℕ}
use Rattle.kw.specs.Regions.{entry_numbers, as_found}
use Rattle.kw.proofs.Told.{told}
use Rattle.kw.proofs.regions.entry_numbers.Goals as goal

-- `kw::regions::entry_numbers` meets its contract. Assumes nothing.
pub returns-in-Some : goal.returns-in-Some
returns-in-Some c =
    let e = c.in-Some.r in
    ap₂ (λ (a b : ℕ). 1 ∷ e.kind ∷ e.flags ∷ a ∷ b ∷ e.covers ∷ []) c.byte_offset.ensures c.byte_end.ensures
    ∙ told entry_numbers as_found refl c.in-Some.is
