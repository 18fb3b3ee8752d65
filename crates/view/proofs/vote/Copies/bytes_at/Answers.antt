use mathlib.Core.Path.{◌≡◌, sym, ◌∙◌}
use Prim.Native.Nat.{ℕ, ◌+◌, ◌<◌, ◌≤◌}
use native.Mathlib.Omega.{arith}
use borrow.Author.Count.{below_more}
use mathlib.Core.List.{List}
use lib.ListN.{length, take, drop, set, length-set, length-take, length-drop, length-replicate}
use lib.Seq.{ext_get_or, get_or-take, get_or-drop, get_or-set_same, get_or-set_other}
use Rattle.model.specs.Bytes.{at}
use Rattle.model.specs.Layout.{voted}
use Rattle.model.proofs.LayoutLaw.{length_voted}
use Rattle.view.proofs.vote.Copies.bytes_at.Goals as goal

-- `view::vote::Copies::bytes_at` meets its contract. Assumes nothing.
-- the bytes of a part, known one by one
part : (n : ℕ) (s v : List ℕ) (p : ℕ) → length s ≡ n → p + n ≤ length v → ((q : ℕ) → q < n → at s q ≡ at v (p + q)) → s ≡ take n (drop p v)
part n s v p ls lv f =
    ext_get_or 0 s (take n (drop p v)) (simp (length-take, length-drop) (omega arith))
    (λ q h. let l : q < n = omega arith in f q l ∙ sym (get_or-take n (drop p v) q 0 l ∙ get_or-drop p v q 0))

pub loop-j-init : goal.loop-j-init
loop-j-init g c = (length-replicate g.row.N 0, λ q h. absurd (omega arith))

pub loop-j-preserved : goal.loop-j-preserved
loop-j-preserved g c =
    let s = c.args.self in
    let l = c.loop-j in
    let v = voted s.base s.len s.bytes.now in (
      simp length-set l.invariant.0,
      below_more (λ q. at (set l.bytes l.j c.byte.result) q ≡ at v (c.args.p + q)) l.j
          (λ q h. get_or-set_other l.bytes l.j q c.byte.result 0 (omega arith) ∙ l.invariant.1 q h)
          (get_or-set_same l.bytes l.j c.byte.result 0 (omega (arith, l.invariant.0)) ∙ c.byte.ensures),
    )

pub returns : goal.returns
returns g c =
    let s = c.args.self in
    let v = voted s.base s.len s.bytes.now in
    part g.row.N c.loop-j.bytes v c.args.p c.loop-j.invariant.0 (omega (arith, length_voted s.base s.len s.bytes.now)) (λ q h. c.loop-j.invariant.1 q (omega arith))
