use Rattle.std.proofs.Common.{ℕ, ◌+◌, ◌-◌, ◌%◌, [], ◌∷◌, ap, ◌∙◌, ap₂}
use Rattle.intel_hex.proofs.RecordLaw.{sum_of_parts}
use Rattle.intel_hex.proofs.record.sum_byte.Goals as goal

-- `intel_hex::record::sum_byte` meets its contract. Assumes nothing.
pub returns : goal.returns
returns c =
    ap (λ (x : ℕ). x ∷ []) (ap₂ (λ (m n : ℕ). (0 + (256 - (m + n) % 256)) % 256) c.low_total.ensures c.low_total-2.ensures ∙ sum_of_parts c.args.head.now c.args.bytes.now)
