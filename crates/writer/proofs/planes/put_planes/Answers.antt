use Rattle.std.proofs.Common.{sym, ◌∙◌, arith}
use Rattle.lemmas.proofs.PlanCodewords.{length_plane}
use Rattle.plan.specs.declared.rows.Row.{Row}
use Rattle.plan.specs.Rows.{as_row}
use Rattle.plan.proofs.RowsLaw.{row_at}
use Rattle.put.proofs.PutLaw.{kept_length}
use Rattle.writer.proofs.PlanesLaw.{none_put, enough, plane_room, plane_put, plane_skip, all_put}
use Rattle.writer.proofs.planes.put_planes.Goals as goal
use Rattle.writer.proofs.planes.put_planes.Goals.{then-is_protected, else-is_protected}

pub loop-row-init : goal.loop-row-init
loop-row-init c = none_put _ _ _ _ c.requires.room c.requires.full

pub split_at-requires : goal.split_at-requires
split_at-requires c = enough c.loop-row.invariant c.loop-row-test.true

pub put_plane-next-requires : goal.put_plane-next-requires
put_plane-next-requires c =
    let s = c.split_at.ensures in
    let row : Row = row_at c.args.rows.now c.loop-row.row-index in
    let room = plane_room c.loop-row.invariant c.loop-row-test.true _ _ s.front s.back (sym c.is_protected.ensures ∙ c.if-is_protected.true) in
    record { room = omega (arith, room, length_plane (as_row row) c.split_at.result.0.now); full = s.front_len }

pub loop-row-preserved : goal.loop-row-preserved
loop-row-preserved c =
    let a = c.loop-row in
    let s = c.split_at.ensures in
    elim c.if-is_protected.branch [
      | then-is_protected w ↦ rw (w.out-is, w.next-is, w.rest-is) (plane_put a.invariant c.loop-row-test.true _ _ s.front s.back (sym c.is_protected.ensures ∙ w.if-is_protected.true) w.put_plane-next.ensures)
      | else-is_protected w ↦ rw (w.out-is, w.next-is, w.rest-is) (plane_skip a.invariant c.loop-row-test.true _ _ s.front s.back (sym c.is_protected.ensures ∙ w.if-is_protected.false))
    ]

pub shape_of-out : goal.shape_of-out
shape_of-out c = kept_length _ _ _ c.loop-row.invariant.going

pub returns : goal.returns
returns c = all_put c.loop-row.invariant (omega arith)
