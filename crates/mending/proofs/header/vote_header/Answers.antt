use mathlib.Core.Path.{sym, subst}
use mathlib.Core.List.{List}
use Prim.Native.Nat.{ℕ, ◌≤◌}
use native.Mathlib.Omega.{arith}
use lib.ListN.{length}
use Rattle.model.specs.Layout.{header_length}
use Rattle.lemmas.proofs.Apart.{accepted}
use Rattle.mending.proofs.VoteLaw.{changed_most, header_settled, header_stored}
use Rattle.view.specs.declared.header.Header.{Header}
use Rattle.mending.specs.Mendable.{Mendable}
use Rattle.mending.proofs.header.vote_header.Goals as goal

-- `mending::header::vote_header` meets its contract. Assumes nothing.
long : (h : Header) (x : List ℕ) → Mendable h x → header_length h.region_count ≤ length x
long h x m = subst (λ (n : ℕ). header_length n ≤ length x) (sym m.regions) (accepted x m.accepted).long

pub vote_copies-prologue-requires : goal.vote_copies-prologue-requires
vote_copies-prologue-requires c = omega (arith, long c.args.header c.args.bytes.now c.requires)

pub vote_copies-directory-requires : goal.vote_copies-directory-requires
vote_copies-directory-requires c =
    omega (arith, long c.args.header c.args.bytes.now c.requires, c.vote_copies-prologue.auto.bytes)

pub overflow_add-result : goal.overflow_add-result
overflow_add-result c =
    let p = c.vote_copies-prologue in
    let d = c.vote_copies-directory in
    let x = c.args.bytes.now in
    let l = (accepted x c.requires.accepted).long in
    let n = c.args.header.region_count in
    omega (
      arith,
      header_stored x l n p.result d.result p.new.bytes d.new.bytes c.requires.regions p.ensures.leaves d.ensures.leaves p.ensures.counts d.ensures.counts,
      changed_most x d.new.bytes,
    )

pub returns : goal.returns
returns c =
    let p = c.vote_copies-prologue in
    let d = c.vote_copies-directory in
    let x = c.args.bytes.now in
    let l = (accepted x c.requires.accepted).long in
    let n = c.args.header.region_count in
    record {
      leaves = header_settled x l n p.result d.result p.new.bytes d.new.bytes c.requires.regions p.ensures.leaves d.ensures.leaves;
      counts = header_stored x l n p.result d.result p.new.bytes d.new.bytes c.requires.regions p.ensures.leaves d.ensures.leaves p.ensures.counts d.ensures.counts;
    }
