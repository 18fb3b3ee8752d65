use Rattle.writer.proofs.PlanesLaw.{PlanesPut}
use Rattle.writer.proofs.planes.put_planes.Given as goal

-- `writer::planes::put_planes` meets its contract. The invariant: the planes of the rows so far are put. Assumes nothing.
abbrev pub invariant-loop-row : goal.invariant-loop-row
invariant-loop-row l = PlanesPut l.initial.out l.at l.rows l.payload l.out l.next l.rest l.row-index
