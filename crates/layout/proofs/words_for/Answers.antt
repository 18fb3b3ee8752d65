use Rattle.std.proofs.Common.{◌+◌, ◌^◌, ap, arith}
use borrow.Author.Tests.{lt-ltb, le-ltb}
use Rattle.std.specs.Prelude.{Some, ◌/◌}
use Rattle.model.specs.Layout.{words_for}
use Rattle.layout.proofs.words_for.Goals as goal

-- `layout::words_for` meets its contract: its test is whether the sum fits. Assumes nothing.
pub returns-in_err-checked_add : goal.returns-in_err-checked_add
unfolding words_for
returns-in_err-checked_add c =
    rw (le-ltb (c.args.bytes + 7) (2 ^ 64) (omega (arith, c.in_err-checked_add.ensures))) c.from_residual.ensures

pub returns : goal.returns
unfolding words_for
returns c =
    rw (lt-ltb (c.args.bytes + 7) (2 ^ 64) (omega (arith, (c.in_ok-checked_add.ensures).0)))
    (ap (λ n. Some (n / 8)) (c.in_ok-checked_add.ensures).1)
