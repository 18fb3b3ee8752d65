use Rattle.std.proofs.Common.{◌+◌, ◌^◌, ap, ◌∙◌, arith}
use borrow.Author.Tests.{le-ltb}
use lib.Dec.{ltb}
use Rattle.model.specs.Bytes.{given}
use Rattle.model.specs.Layout.{header_length, header_bytes}
use Rattle.layout.proofs.SizeLaw.{given_if}
use Rattle.layout.proofs.header_bytes.Goals as goal

-- `layout::header_bytes` meets its contract: its test is whether the length fits. Assumes nothing.
pub returns-in_err-checked_mul : goal.returns-in_err-checked_mul
unfolding header_bytes
returns-in_err-checked_mul c =
    rw (le-ltb (header_length c.args.region_count) (2 ^ 64) (omega (arith, c.in_err-checked_mul.ensures)))
    c.from_residual.ensures

pub returns : goal.returns
unfolding header_bytes
returns c =
    let n = c.in_ok-checked_mul.field-0 + 48 in
    given_if c.checked_add.result n (2 ^ 64) n c.checked_add.ensures
    ∙ ap (λ k. given (ltb k (2 ^ 64)) k) (omega (arith, c.in_ok-checked_mul.ensures.1))
