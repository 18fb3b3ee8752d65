-- The three prologues take 48 bytes. Assumes nothing.
use mathlib.Core.Path.{◌≡◌}
use Prim.Native.Nat.{ℕ}
use lib.ListN.{length}
use Rattle.model.specs.Bytes.{thrice}
use Rattle.model.specs.Writer.{prologue_bytes}
use Rattle.model.proofs.BytesLaw.{length_thrice}
use Rattle.lemmas.proofs.ImageLaw.{length_prologue_bytes}

pub prologues_length : (n flags : ℕ) → length (thrice (prologue_bytes n flags)) ≡ 48
prologues_length n flags = length_thrice (prologue_bytes n flags) 16 (length_prologue_bytes n flags)
