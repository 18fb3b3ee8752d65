use Prim.Native.Nat.{ℕ}
use native.Mathlib.Omega.{arith}
use mathlib.Core.List.{List, ◌++◌}
use Rattle.model.specs.Bytes.{le_bytes}
use Rattle.model.specs.Layout.{Entry}
use Rattle.model.specs.Writer.{entry_bytes}
use Rattle.layout.specs.Regions.{as_entry}
use Rattle.put.proofs.PutLaw.{Going, begin, go_on, last}
use Rattle.writer.proofs.directory.put_entry.Goals as goal

-- `writer::directory::put_entry` meets its contract. Assumes nothing.
pub put_number-offset-requires : goal.put_number-offset-requires
unfolding le_bytes
put_number-offset-requires c = omega arith

pub put_number-length-requires : goal.put_number-length-requires
unfolding le_bytes
put_number-length-requires c = omega arith

pub put_number-covers-requires : goal.put_number-covers-requires
unfolding le_bytes
put_number-covers-requires c = omega arith

pub put_number-reserved-requires : goal.put_number-reserved-requires
unfolding le_bytes
put_number-reserved-requires c = omega arith

pub put_number-requires : goal.put_number-requires
unfolding le_bytes
put_number-requires c = omega arith

pub returns : goal.returns
unfolding entry_bytes le_bytes
returns c =
    let g = c.args in
    let e : Entry = as_entry g.entry in
    let r5 : List ℕ = le_bytes 2 0 in
    let r4 : List ℕ = le_bytes 2 e.covers ++ r5 in
    let r3 : List ℕ = le_bytes 4 e.words ++ r4 in
    let r2 : List ℕ = le_bytes 4 e.offset ++ r3 in
    let r1 : List ℕ = le_bytes 2 e.flags ++ r2 in
    let g0 : Going g.out.now g.at (entry_bytes e) g.out.now g.at (le_bytes 2 e.kind ++ r1) = begin g.out.now g.at (entry_bytes e) c.requires in
    let g1 = go_on _ _ (le_bytes 2 e.kind) r1 g0 c.put_number-flags.ensures in
    let g2 = go_on _ _ (le_bytes 2 e.flags) r2 g1 c.put_number-offset.ensures in
    let g3 = go_on _ _ (le_bytes 4 e.offset) r3 g2 c.put_number-length.ensures in
    let g4 = go_on _ _ (le_bytes 4 e.words) r4 g3 c.put_number-covers.ensures in
    let g5 = go_on _ _ (le_bytes 2 e.covers) r5 g4 c.put_number-reserved.ensures in
    last _ _ r5 g5 c.put_number.ensures
