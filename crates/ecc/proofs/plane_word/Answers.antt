use mathlib.Core.Path.{ap, ◌∙◌}
use Rattle.std.specs.Prelude.{Some}
use native.Mathlib.Omega.{arith}
use Rattle.ecc.proofs.PlaneLaw.{word_past, word_there, decoded}
use Rattle.ecc.proofs.plane_word.Goals as goal

-- `ecc::plane_word` meets its contract.
pub returns-then-index-plane_words : goal.returns-then-index-plane_words
returns-then-index-plane_words c =
    let a = c.args in
    word_past a.«data».now a.parity.now a.index (omega (arith, c.plane_words.ensures.0))

pub returns : goal.returns
returns c =
    let a = c.args in
    ap Some (decoded a.«data».now a.parity.now a.index c.u64_or_zero.result (omega arith) c.u64_or_zero.ensures c.decode_word.ensures)
    ∙ word_there a.«data».now a.parity.now a.index (omega (arith, c.plane_words.ensures.0))
