-- No two refusals have the same number and detail: they are read back from the two. No two answers fit one promise. Assumes nothing.
use mathlib.Core.Path.{◌≡◌, refl, sym, ap, ap₂, ◌∙◌}
use mathlib.Core.List.{[], ◌∷◌}
use Prim.Native.Nat.{ℕ}
use native.Mathlib.Omega.{arith}
use lib.ListN.{get_or}
use Rattle.model.proofs.OneAnswer.{OneAnswer, agree}
use Rattle.error.specs.declared.Refusal.{Refusal}
use Rattle.error.specs.declared.Refusal.TheVariants.{Truncated, BadMagic, ForeignEndian, UnsupportedVersion, BadPrologueChecksum, TooManyRegions, RegionOutOfBounds, DuplicateRegion, BadRecordStride, Overflow, TooLarge, OverlappingRegions, NoRoom, BadPlan, BadHexLine, HexGap}
use Rattle.std.specs.Prelude.{Result, Ok, Err}
use Rattle.error.specs.Refused.{number_of, detail_of, as_verdict, as_check}
use Rattle.error.proofs.Refusal.number.Reads as number
use Rattle.error.proofs.Refusal.detail.Reads as detail

-- the refusal of a number and a detail, by its place in the table; number 0 is none
decode : ℕ → ℕ → Refusal
decode n d =
    get_or
    (Truncated ∷ Truncated ∷ BadMagic ∷ ForeignEndian ∷ UnsupportedVersion d ∷ BadPrologueChecksum ∷ TooManyRegions d ∷ RegionOutOfBounds d ∷ DuplicateRegion d ∷ BadRecordStride ∷ Overflow ∷ TooLarge ∷ OverlappingRegions d ∷ NoRoom ∷ BadPlan d ∷ BadHexLine d ∷ HexGap d ∷ [])
    n Truncated

decoded : (r : Refusal) → decode (number_of r) (detail_of r) ≡ r
unfolding decode
decoded Truncated = refl
decoded BadMagic = refl
decoded ForeignEndian = refl
decoded (UnsupportedVersion d) = refl
decoded BadPrologueChecksum = refl
decoded (TooManyRegions d) = refl
decoded (RegionOutOfBounds d) = refl
decoded (DuplicateRegion d) = refl
decoded BadRecordStride = refl
decoded Overflow = refl
decoded TooLarge = refl
decoded (OverlappingRegions d) = refl
decoded NoRoom = refl
decoded (BadPlan d) = refl
decoded (BadHexLine d) = refl
decoded (HexGap d) = refl

pub one_refusal : (a b : Refusal) → as_verdict a ≡ as_verdict b → a ≡ b
one_refusal a b e =
    let n : number_of a ≡ number_of b = cc in
    let d : detail_of a ≡ detail_of b = cc in
    sym (decoded a) ∙ ap₂ decode n d ∙ decoded b

pub one_check : (a b : Result Unit Refusal) → as_check a ≡ as_check b → a ≡ b
one_check (Ok a) (Ok b) e = refl
one_check (Ok a) (Err r) e = let z : ◌≡◌ {A = ℕ} 0 1 = cc in absurd (omega arith)
one_check (Err r) (Ok b) e = let z : ◌≡◌ {A = ℕ} 0 1 = cc in absurd (omega arith)
one_check (Err r) (Err s) e = ap Err (one_refusal r s e)

-- ---- no two answers of a function fit its promise

pub one_answer_number : OneAnswer number.Learnt
one_answer_number κs a r r' s s' p q = agree p q

pub one_answer_detail : OneAnswer detail.Learnt
one_answer_detail κs a r r' s s' p q = agree p q
