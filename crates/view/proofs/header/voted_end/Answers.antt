use native.Mathlib.Omega.{arith}
use Rattle.model.specs.Layout.{directory_bytes_of}
use Rattle.model.proofs.LayoutLaw.{offset_in, words_in_lem}
use Rattle.view.proofs.header.voted_end.Goals as goal

-- `view::header::voted_end` meets its contract. Assumes nothing.
pub returns : goal.returns
unfolding directory_bytes_of
returns c =
    let g = c.args.directory in
    let i = c.args.i in
    omega (arith, offset_in g.count g.bytes.now i, words_in_lem g.count g.bytes.now i, c.number_at-offset.ensures, c.number_at-words.ensures)
