use Rattle.std.proofs.Common.{◌≡◌, ◌+◌, ◌-◌, arith, le-ltb, lt-ltb}
use Rattle.model.specs.Hex.{digit_of}
use Rattle.intel_hex.proofs.record.digit.Goals as goal

-- `intel_hex::record::digit` meets its contract. Assumes nothing.
pub returns-then-d-lt10 : goal.returns-then-d-lt10
unfolding digit_of
returns-then-d-lt10 c = simp (lt-ltb _ _ c.if-d-lt10.true)

pub returns-else-d-lt10 : goal.returns-else-d-lt10
unfolding digit_of
returns-else-d-lt10 c = let e : 65 + (c.args.d - 10) ≡ 55 + c.args.d = omega arith in simp (le-ltb _ _ c.if-d-lt10.false, e)
