use Rattle.std.proofs.Common.{◌≡◌, ℕ, ◌+◌, ◌*◌, ◌-◌, ◌/◌, ◌≤◌, ◌++◌, length, replicate, ap, subst, arith}
use Rattle.model.specs.Writer.{checks, plane_words, plane_bytes}
use Rattle.lemmas.proofs.PlanCodewords.{length_checks, length_plane}
use Rattle.plan.specs.Rows.{as_row}
use Rattle.put.specs.Put.{Put}
use Rattle.put.proofs.PutLaw.{Going, begin, go_on, last}
use Rattle.writer.proofs.planes.put_plane.Goals as goal

-- `writer::planes::put_plane` meets its contract. Assumes nothing.
pub put_checks-tail-requires : goal.put_checks-tail-requires
put_checks-tail-requires c = omega (arith, c.requires.full, c.requires.room)

pub put_zeros-requires : goal.put_zeros-requires
put_zeros-requires c =
    omega (arith, c.put_checks-tail.ensures.behind, c.put_checks-tail.ensures.long, length_checks (length c.args.words.now / 8) c.args.words.now, c.requires.full, c.requires.room, c.plane_words.ensures.is)

pub returns : goal.returns
unfolding plane_bytes
returns c =
    let g = c.args in
    let n : ℕ = g.row.words in
    let z : ℕ = 8 * plane_words (as_row g.row) - n in
    let room : g.at + length (plane_bytes (as_row g.row) g.words.now) ≤ length g.out.now = omega (arith, length_plane (as_row g.row) g.words.now, c.requires.room) in
    let g0 : Going g.out.now g.at (plane_bytes (as_row g.row) g.words.now) g.out.now g.at (checks n g.words.now ++ replicate z 0) =
    begin g.out.now g.at (plane_bytes (as_row g.row) g.words.now) room in
    let k : length g.words.now / 8 ≡ n = omega (arith, c.requires.full) in
    let g1 = go_on _ _ (checks n g.words.now) (replicate z 0) g0 (subst (λ (m : ℕ). Put g.out.now g.at (checks m g.words.now) c.put_checks-tail.result c.put_checks-tail.new.out) k c.put_checks-tail.ensures) in
    let e : 8 * c.plane_words.result - n ≡ z = ap (λ (k : ℕ). 8 * k - n) c.plane_words.ensures.is in
    last _ _ (replicate z 0) g1 (subst (λ (k : ℕ). Put c.put_checks-tail.new.out c.put_checks-tail.result (replicate k 0) c.put_zeros.result c.put_zeros.new.out) e c.put_zeros.ensures)
