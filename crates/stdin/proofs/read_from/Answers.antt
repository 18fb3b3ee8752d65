use Rattle.std.proofs.Common.{◌≡◌, ℕ, ◌+◌, ◌≤◌, List, ◌++◌, length, take, arith, sym, ap, ◌∙◌, subst, rules, drop, drop_at, length-take-le}
use Rattle.std.specs.Io.KnownBytes.{Consumes}
use Rattle.std.proofs.KnownBytes.{Consumes-trans}
use Rattle.std.proofs.Math.Seq.{take-add}
use Rattle.std.proofs.lemmas.List.{take-append-le}
use Rattle.std.proofs.lemmas.Slice.{take-put_mid_below}
use borrow.Rule.Slice.PartMut.{put_mid, post_of}
use Rattle.stdin.proofs.read_from.Goals as goal

-- the first n bytes, and then m of those that a read put behind them
filled : (n k m : ℕ) (xs ys : List ℕ) → n ≤ length xs → m ≤ length ys → take n xs ++ take m ys ≡ take (n + m) (put_mid n k xs ys)
filled n k m xs ys p q =
    let after = ap (take m) (drop_at (take n xs) (ys ++ post_of n k xs) n (length-take-le n xs p)) ∙ take-append-le m ys (post_of n k xs) q in
    sym (take-add n m (put_mid n k xs ys) ∙ ap (λ l. l ++ take m (drop n (put_mid n k xs ys))) (take-put_mid_below n k xs ys n (omega arith) p) ∙ ap (λ l. take n xs ++ l) after)

pub loop-n-preserved : goal.loop-n-preserved
loop-n-preserved g c = record {
  within = search rules;
  bytes = subst (Consumes _ _) (filled _ _ _ _ _ c.loop-n.invariant.within c.in-Ok.ensures.bound.0) (Consumes-trans _ _ _ _ _ c.loop-n.invariant.bytes c.in-Ok.ensures.bytes.0);
}
