-- A directory entry, read field by field, as code hands it out. Assumes nothing.
use mathlib.Core.Path.{◌≡◌, sym, ap, ◌∙◌}
use mathlib.Core.List.{List}
use Prim.Native.Nat.{ℕ, ◌+◌, ◌*◌}
use native.Mathlib.Omega.{arith}
use Rattle.model.specs.Bytes.{read}
use Rattle.model.specs.Layout.{voted, directory_bytes_of}
use Rattle.model.proofs.LayoutLaw.{kind_in_lem, flags_in_lem, offset_in, words_in_lem, covers_in}
use Rattle.model.specs.Steps.{entry_in}
use Rattle.layout.specs.declared.Region.{Region}
use Rattle.layout.specs.Regions.{region_of}

-- the kind stands at an entry's front
pub kind_front : (n : ℕ) (x : List ℕ) (i : ℕ) → read 2 (voted 48 (16 * n) x) (16 * i + 0) ≡ (entry_in n x i).kind
unfolding directory_bytes_of
kind_front n x i = let z : 16 * i + 0 ≡ 16 * i = omega arith in ap (read 2 (voted 48 (16 * n) x)) z ∙ sym (kind_in_lem n x i)

pub region_read : (n : ℕ) (x : List ℕ) (i : ℕ) (k f o w v : ℕ)
    → k ≡ read 2 (voted 48 (16 * n) x) (16 * i + 0) → f ≡ read 2 (voted 48 (16 * n) x) (16 * i + 2) → o ≡ read 4 (voted 48 (16 * n) x) (16 * i + 4)
    → w ≡ read 4 (voted 48 (16 * n) x) (16 * i + 8) → v ≡ read 2 (voted 48 (16 * n) x) (16 * i + 12)
    → ◌≡◌ {A = Region} (record { kind = k; flags = f; word_offset = o; word_length = w; covers = v }) (region_of (entry_in n x i))
unfolding directory_bytes_of
region_read n x i k f o w v ek ef eo ew ev =
    rw (ek ∙ kind_front n x i, ef, eo, ew, ev, flags_in_lem n x i, offset_in n x i, words_in_lem n x i, covers_in n x i)
