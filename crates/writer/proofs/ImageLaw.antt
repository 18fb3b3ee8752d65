-- The image's parts as the code puts them, and their lengths. Assumes nothing.
use mathlib.Core.Path.{◌≡◌, ap, ap₂, ◌∙◌}
use mathlib.Core.List.{List, ◌++◌}
use Prim.Native.Nat.{ℕ, ◌+◌, ◌*◌}
use native.Mathlib.Omega.{arith}
use lib.ListN.{length, length-append}
use Rattle.model.specs.Bytes.{thrice}
use Rattle.model.specs.Writer.{Row, row_entries, plane_entries, row_words_lem, regions, first_word, plan_directory, entries_bytes, prologue_bytes, planes_bytes, plan_image, image_length}
use Rattle.model.proofs.BytesLaw.{length_thrice}
use Rattle.lemmas.proofs.ImageLaw.{length_entries_bytes, length_directory}
use Rattle.lemmas.proofs.PlanCodewords.{length_planes}
use Rattle.writer.proofs.PrologueLaw.{prologues_length}

-- one copy of the directory, the regions packed from word a on, the rows' words together w
abbrev pub copy_of : ℕ → ℕ → List Row → List ℕ
copy_of a w rs = entries_bytes (row_entries a rs ++ plane_entries (a + w) rs)

pub copy_is : (a w : ℕ) (rs : List Row) → a ≡ first_word rs → w ≡ row_words_lem rs → copy_of a w rs ≡ entries_bytes (plan_directory rs)
unfolding plan_directory
copy_is a w rs e f = ap₂ (λ (b v : ℕ). copy_of b v rs) e f

pub copy_length : (rs : List Row) → length (entries_bytes (plan_directory rs)) ≡ 16 * regions rs
copy_length rs = length_entries_bytes (plan_directory rs) ∙ ap (λ (m : ℕ). 16 * m) (length_directory rs)

pub copies_length : (rs : List Row) → length (thrice (entries_bytes (plan_directory rs))) ≡ 48 * regions rs
copies_length rs = length_thrice (entries_bytes (plan_directory rs)) (16 * regions rs) (copy_length rs) ∙ omega arith

pub image_length_lem : (rs : List Row) (payload : List ℕ) → length payload ≡ 8 * row_words_lem rs → length (plan_image rs payload) ≡ image_length rs
unfolding plan_image image_length
image_length_lem rs payload e =
    let c = thrice (entries_bytes (plan_directory rs)) in
    let q = planes_bytes rs payload in
    omega (
      arith,
      length-append (thrice (prologue_bytes (regions rs) 0)) (c ++ (payload ++ q)),
      length-append c (payload ++ q),
      length-append payload q,
      prologues_length (regions rs) 0,
      copies_length rs,
      length_planes rs payload,
    )
