use Prim.Native.Nat.{ℕ}
use native.Mathlib.Omega.{arith}
use mathlib.Core.List.{List, ◌++◌}
use Rattle.model.specs.Bytes.{le_bytes}
use Rattle.model.specs.Writer.{prologue_start}
use Rattle.put.proofs.PutLaw.{Going, begin, go_on, last}
use Rattle.writer.proofs.prologue.put_prologue_start.Goals as goal

-- `writer::prologue::put_prologue_start` meets its contract. Assumes nothing.
pub put_number-version-requires : goal.put_number-version-requires
unfolding le_bytes
put_number-version-requires c = omega arith

pub put_number-count-requires : goal.put_number-count-requires
unfolding le_bytes
put_number-count-requires c = omega arith

pub put_number-behind-requires : goal.put_number-behind-requires
unfolding le_bytes
put_number-behind-requires c = omega arith

pub put_number-requires : goal.put_number-requires
unfolding le_bytes
put_number-requires c = omega arith

pub returns : goal.returns
unfolding prologue_start le_bytes
returns c =
    let g = c.args in
    let n : ℕ = g.regions in
    let f : ℕ = g.flags in
    let r4 : List ℕ = le_bytes 2 f in
    let r3 : List ℕ = le_bytes 2 n ++ r4 in
    let r2 : List ℕ = le_bytes 2 2 ++ r3 in
    let r1 : List ℕ = le_bytes 2 0xFEFF ++ r2 in
    let g0 : Going g.out.now g.at (prologue_start n f) g.out.now g.at (le_bytes 4 0x4B415558 ++ r1) = begin g.out.now g.at (prologue_start n f) c.requires in
    let g1 = go_on _ _ (le_bytes 4 0x4B415558) r1 g0 c.put_number-marker.ensures in
    let g2 = go_on _ _ (le_bytes 2 0xFEFF) r2 g1 c.put_number-version.ensures in
    let g3 = go_on _ _ (le_bytes 2 2) r3 g2 c.put_number-count.ensures in
    let g4 = go_on _ _ (le_bytes 2 n) r4 g3 c.put_number-behind.ensures in
    last _ _ r4 g4 c.put_number.ensures
