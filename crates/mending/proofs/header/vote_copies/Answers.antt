use mathlib.Core.Path.{◌≡◌, refl, sym, ap, ap₂, ◌∙◌, subst}
use mathlib.Core.List.{List}
use Prim.Native.Nat.{ℕ, ◌+◌, ◌-◌}
use native.Mathlib.Omega.{arith}
use lib.ListN.{length}
use Rattle.model.specs.Mend.{changed}
use Rattle.lemmas.specs.Steps.{copy_votes}
use Rattle.mending.proofs.VoteLaw.{changed_most, Untouched, changed_next, untouched_next, votes_next, votes_done}
use Rattle.lemmas.proofs.HeaderHalf.{copy_vote_length}
use Rattle.lemmas.proofs.StoredLaw.{changed_none}
use Rattle.mending.proofs.header.vote_copies.Goals as goal

pub loop-j-init : goal.loop-j-init
loop-j-init c =
    let g = c.args in
    let n : g.k - 0 ≡ g.k = omega arith in
    (refl, ap (λ (m : ℕ). copy_votes g.base g.k m 0 g.bytes.now) n, sym (changed_none g.bytes.now), λ i a h. (refl, refl, refl))

pub overflow_add-stored : goal.overflow_add-stored
overflow_add-stored c =
    let l = c.loop-j in
    let g = c.args in
    let o = c.vote_byte-stored in
    let x = g.bytes.now in
    let n : changed x o.new.bytes ≡ changed x l.bytes + changed l.bytes o.new.bytes =
    ap (changed x) o.ensures.leaves ∙ changed_next g.base g.k l.j (omega arith) x l.bytes c.requires l.invariant.0 l.invariant.3 ∙ ap (λ (z : List ℕ). changed x l.bytes + changed l.bytes z) (sym o.ensures.leaves) in
    omega (arith, n, l.invariant.2, o.ensures.counts, changed_most x o.new.bytes)

pub loop-j-preserved : goal.loop-j-preserved
loop-j-preserved c =
    let l = c.loop-j in
    let g = c.args in
    let o = c.vote_byte-stored in
    let x = g.bytes.now in
    let n : changed x o.new.bytes ≡ changed x l.bytes + changed l.bytes o.new.bytes =
    ap (changed x) o.ensures.leaves ∙ changed_next g.base g.k l.j (omega arith) x l.bytes c.requires l.invariant.0 l.invariant.3 ∙ ap (λ (z : List ℕ). changed x l.bytes + changed l.bytes z) (sym o.ensures.leaves) in (
      ap length o.ensures.leaves ∙ copy_vote_length g.base g.k l.j l.bytes ∙ l.invariant.0,
      ap (copy_votes g.base g.k (g.k - (l.j + 1)) (l.j + 1)) o.ensures.leaves ∙ sym (votes_next g.base g.k l.j l.bytes (omega arith)) ∙ l.invariant.1,
      ap₂ (λ (p q : ℕ). p + q) l.invariant.2 o.ensures.counts ∙ sym n,
      subst (Untouched g.base g.k (l.j + 1) x) (sym o.ensures.leaves) (untouched_next g.base g.k l.j (omega arith) x l.bytes c.requires l.invariant.0 l.invariant.3),
    )

pub returns : goal.returns
returns c =
    let l = c.loop-j in
    let g = c.args in
    record { leaves = sym (votes_done g.base g.k l.j l.bytes (omega arith)) ∙ l.invariant.1; counts = l.invariant.2 }

pub vote_byte-stored-requires : goal.vote_byte-stored-requires
vote_byte-stored-requires c = omega arith

pub shape_of-bytes : goal.shape_of-bytes
shape_of-bytes c = omega arith
