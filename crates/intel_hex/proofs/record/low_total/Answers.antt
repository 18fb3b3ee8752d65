use Rattle.std.proofs.Common.{rules, ◌≡◌, ◌+◌, ◌%◌, fold, ◌∙◌, arith}
use Rattle.intel_hex.proofs.RecordLaw.{low_fold}
use Rattle.intel_hex.proofs.record.low_total.Goals as goal

-- `intel_hex::record::low_total` meets its contract. Assumes nothing.
pub returns : goal.returns
returns c = let e : c.fold.result ≡ fold (λ n b. (n + b) % 256) 0 c.args.bytes.now = search rules in e ∙ low_fold 0 c.args.bytes.now (omega arith) ∙ omega arith
