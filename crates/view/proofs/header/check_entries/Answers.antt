use mathlib.Core.Path.{◌≡◌, refl, sym, ap, ap₂, ◌∙◌, subst}
use mathlib.Core.Bool.{Bool}
use mathlib.Core.List.{List}
use Prim.Native.Nat.{ℕ, ◌+◌, ◌≤◌, ◌<◌}
use native.Mathlib.Omega.{arith}
use lib.ListN.{length, get_or, drop}
use Rattle.model.specs.Bytes.{part}
use Rattle.model.proofs.BytesLaw.{part_to_end}
use Rattle.model.specs.Refusals.{refuse}
use Rattle.model.specs.Layout.{directory_of}
use Rattle.model.specs.Parse.{among}
use Rattle.model.proofs.LayoutLaw.{walk, walked}
use Rattle.model.proofs.WalkLaw.{verdict_past, verdict_twice, verdict_next, verdict_end}
use Rattle.model.specs.Steps.{entry_in}
use Rattle.view.specs.Kinds.{kinds_of, elem}
use Rattle.view.proofs.KindsLaw.{kind_at, elem_kinds}
use Rattle.view.proofs.header.check_entries.Goals as goal

-- the kinds are the voted ones
module _ (n : ℕ) (x ks : List ℕ) (i : ℕ) (e : ks ≡ kinds_of (directory_of n x)) (h : i < n) where
  now_kind : get_or ks i 0 ≡ (entry_in n x i).kind
  now_kind = ap (λ (l : List ℕ). get_or l i 0) e ∙ kind_at n x i h

  now_among : (r : Bool) → r ≡ elem (get_or ks i 0) (part ks (i + 1) (length ks)) → among (entry_in n x i).kind (drop (i + 1) (directory_of n x)) ≡ r
  now_among r f =
      sym (f ∙ ap (elem (get_or ks i 0)) (part_to_end ks (i + 1)) ∙ ap₂ (λ (k : ℕ) (l : List ℕ). elem k (drop (i + 1) l)) now_kind e ∙ elem_kinds (entry_in n x i).kind (i + 1) (directory_of n x))

pub loop-i-init : goal.loop-i-init
loop-i-init c = refl

pub returns-then-directory-voted_end : goal.returns-then-directory-voted_end
returns-then-directory-voted_end c =
    let g = c.args.directory in
    let ks = c.args.kinds.now in
    let x = g.bytes.now in
    sym (verdict_past (directory_of g.count x) c.loop-i.i (entry_in g.count x c.loop-i.i) (walk g.count x c.loop-i.i (omega arith)) (length x)
    (subst (λ (k : ℕ). length x < k) c.voted_end.ensures c.if-directory-voted_end.true)) ∙ c.loop-i.invariant

pub returns-then-is_among : goal.returns-then-is_among
returns-then-is_among c =
    let g = c.args.directory in
    let ks = c.args.kinds.now in
    let x = g.bytes.now in
    let k = now_kind g.count x ks c.loop-i.i c.requires.2 (omega arith) in
    ap (refuse 8) k
    ∙ sym (verdict_twice (directory_of g.count x) c.loop-i.i (entry_in g.count x c.loop-i.i) (walk g.count x c.loop-i.i (omega arith)) (length x)
    (subst (λ (m : ℕ). m ≤ length x) c.voted_end.ensures c.if-directory-voted_end.false)
    (now_among g.count x ks c.loop-i.i c.requires.2 (omega arith) c.is_among.result c.is_among.ensures ∙ c.if-is_among.true)) ∙ c.loop-i.invariant

pub loop-i-preserved : goal.loop-i-preserved
loop-i-preserved c =
    let g = c.args.directory in
    let ks = c.args.kinds.now in
    let x = g.bytes.now in
    verdict_next (directory_of g.count x) c.loop-i.i (entry_in g.count x c.loop-i.i) (walk g.count x c.loop-i.i (omega arith)) (length x)
    (subst (λ (m : ℕ). m ≤ length x) c.voted_end.ensures c.if-directory-voted_end.false)
    (now_among g.count x ks c.loop-i.i c.requires.2 (omega arith) c.is_among.result c.is_among.ensures ∙ c.if-is_among.false) ∙ c.loop-i.invariant

pub returns : goal.returns
returns c =
    let g = c.args.directory in
    let ks = c.args.kinds.now in
    let x = g.bytes.now in
    sym (verdict_end (directory_of g.count x) c.loop-i.i (walked g.count x c.loop-i.i (omega arith)) (length x)) ∙ c.loop-i.invariant
