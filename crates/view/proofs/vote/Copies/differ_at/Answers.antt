use mathlib.Core.Path.{sym}
use Prim.Native.Nat.{◌+◌}
use borrow.Author.Tests.{eq-eqb, ne_eqb}
use Rattle.model.specs.Bytes.{at}
use Rattle.model.proofs.CopiesLaw.{off_at}
use Rattle.view.proofs.vote.Copies.differ_at.Goals as goal

-- `view::vote::Copies::differ_at` meets its contract. Assumes nothing.
pub returns-then-self-j : goal.returns-then-self-j
unfolding off_at
returns-then-self-j c =
    let g = c.args.self in
    let j = c.args.j in
    let x = g.bytes.now in
    sym (rw (← c.byte-v.ensures, ne_eqb (at x (g.base + j)) c.byte-v.result c.if-self-j.true))

pub returns-then-self-j-2 : goal.returns-then-self-j-2
unfolding off_at
returns-then-self-j-2 c =
    let g = c.args.self in
    let j = c.args.j in
    let x = g.bytes.now in
    sym (rw (← c.byte-v.ensures, eq-eqb (at x (g.base + j)) c.byte-v.result c.if-self-j.false, ne_eqb (at x (g.base + g.len + j)) c.byte-v.result c.if-self-j-2.true))

pub returns : goal.returns
unfolding off_at
returns c =
    let g = c.args.self in
    let j = c.args.j in
    let x = g.bytes.now in
    sym (rw (← c.byte-v.ensures, eq-eqb (at x (g.base + j)) c.byte-v.result c.if-self-j.false, eq-eqb (at x (g.base + g.len + j)) c.byte-v.result c.if-self-j-2.false))
