use native.Mathlib.Omega.{arith}
use Rattle.put.proofs.PutLaw.{put_two}
use Rattle.put.proofs.LinesLaw.{put_last_line}
use Rattle.text.proofs.told.put_second.Goals as goal

-- `text::told::put_second` meets its contract: a prefix, a line and its line feed. Assumes nothing.
pub returns : goal.returns
returns c =
    let a = c.args in
    let start = c.put_prefix-start in
    let line = c.put_ecc-end in
    let end = c.put_line_feed in record { is = put_last_line a.out.now a.at _ (put_two a.out.now a.at _ _ start.ensures.is line.ensures.is) end.ensures.is; few = omega (arith, start.ensures.few, line.ensures.few, end.ensures.few) }
