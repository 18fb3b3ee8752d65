use native.Mathlib.Omega.{arith}
use Rattle.model.specs.Programs.{text, field, ecc_line}
use Rattle.put.proofs.PutLaw.{put_two}
use Rattle.text.proofs.line.put_counts.Goals as goal

-- `text::line::put_counts` meets its contract: three fields. Assumes nothing.
pub returns : goal.returns
unfolding ecc_line field text
returns c =
    let a = c.args in
    let words = c.put_field-corrected in
    let corrected = c.put_field-uncorrectable in
    let uncorrectable = c.put_field in record { is = put_two a.out.now a.at _ _ words.ensures.is (put_two words.new.out words.result _ _ corrected.ensures.is uncorrectable.ensures.is); few = omega (arith, words.ensures.few, corrected.ensures.few, uncorrectable.ensures.few) }
