use Prim.Native.Nat.{◌+◌, ◌*◌}
use native.Mathlib.Omega.{arith}
use lib.Dec.{eqb}
use Rattle.model.specs.Bytes.{at}
use Rattle.mending.proofs.VoteLaw.{at_most_one, settled, settled_count}
use Rattle.mending.proofs.header.vote_byte.Goals as goal

-- `mending::header::vote_byte` meets its contract. Assumes nothing.
pub overflow_add-result : goal.overflow_add-result
overflow_add-result c =
    let p₁ = c.store_byte-first in
    let p₂ = c.store_byte-second in
    let p₃ = c.store_byte-third in
    let g = c.args in
    let v = c.maj3-v.result in
    omega (arith, p₁.ensures.counts, at_most_one (eqb (at g.bytes.now (g.base + g.j)) v), p₂.ensures.counts, at_most_one (eqb (at p₁.new.bytes (g.base + g.k + g.j)) v), p₃.ensures.counts, at_most_one (eqb (at p₂.new.bytes (g.base + 2 * g.k + g.j)) v))

pub overflow_add-result-2 : goal.overflow_add-result-2
overflow_add-result-2 c =
    let p₁ = c.store_byte-first in
    let p₂ = c.store_byte-second in
    let p₃ = c.store_byte-third in
    let g = c.args in
    let v = c.maj3-v.result in
    omega (arith, p₁.ensures.counts, at_most_one (eqb (at g.bytes.now (g.base + g.j)) v), p₂.ensures.counts, at_most_one (eqb (at p₁.new.bytes (g.base + g.k + g.j)) v), p₃.ensures.counts, at_most_one (eqb (at p₂.new.bytes (g.base + 2 * g.k + g.j)) v))

pub returns : goal.returns
returns c =
    let p₁ = c.store_byte-first in
    let p₂ = c.store_byte-second in
    let p₃ = c.store_byte-third in
    let m = c.maj3-v in
    let g = c.args in record {
      leaves = settled g.base g.k g.j c.requires.0 g.bytes.now c.requires.1 m.result p₁.result p₂.result p₃.result p₁.new.bytes p₂.new.bytes p₃.new.bytes
          p₁.ensures.leaves p₂.ensures.leaves p₃.ensures.leaves m.ensures.value;
      counts = settled_count g.base g.k g.j c.requires.0 g.bytes.now c.requires.1 m.result p₁.result p₂.result p₃.result p₁.new.bytes p₂.new.bytes p₃.new.bytes
          p₁.ensures.leaves p₂.ensures.leaves p₃.ensures.leaves p₁.ensures.counts p₂.ensures.counts p₃.ensures.counts;
    }
