use mathlib.Core.Path.{◌≡◌, sym, ◌∙◌}
use native.Mathlib.Omega.{arith}
use borrow.Author.Count.{below_more}
use lib.ListN.{get_or, set, length-set}
use lib.Seq.{ext_get_or, get_or-set_same, get_or-set_other}
use Rattle.model.specs.Layout.{directory_of}
use Rattle.view.specs.Kinds.{kinds_of}
use Rattle.view.proofs.KindsLaw.{length_voted_kinds, kind_read}
use Rattle.view.proofs.header.vote_kinds.Goals as goal

pub loop-i-init : goal.loop-i-init
loop-i-init c = (c.requires, λ p h. absurd (omega arith))

pub loop-i-preserved : goal.loop-i-preserved
loop-i-preserved c =
    let g = c.args.directory in
    let l = c.loop-i in
    let ks = kinds_of (directory_of g.count g.bytes.now) in (
      simp length-set l.invariant.0,
      below_more (λ p. get_or (set l.kinds l.i c.number_at.result) p 0 ≡ get_or ks p 0) l.i
          (λ p h. get_or-set_other l.kinds l.i p c.number_at.result 0 (omega arith) ∙ l.invariant.1 p h)
          (get_or-set_same l.kinds l.i c.number_at.result 0 (omega (arith, l.invariant.0)) ∙ c.number_at.ensures
          ∙ sym (kind_read g.count g.bytes.now l.i (omega arith))),
    )

pub returns : goal.returns
returns c =
    let g = c.args.directory in
    let l = c.loop-i in
    ext_get_or 0 l.kinds (kinds_of (directory_of g.count g.bytes.now)) (omega (arith, l.invariant.0, length_voted_kinds g.count g.bytes.now))
    (λ p h. l.invariant.1 p (omega (arith, l.invariant.0)))
