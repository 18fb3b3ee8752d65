use Rattle.std.proofs.Common.{◌<◌, sym, ◌∙◌, refl, arith}
use Rattle.std.proofs.lemmas.List.Elements.{All-get_or}
use Rattle.model.specs.Writer.{plane_entries}
use Rattle.plan.specs.declared.rows.Row.{Row}
use Rattle.plan.proofs.RowsLaw.{no_row}
use Rattle.put.proofs.PutLaw.{kept_length}
use Rattle.writer.proofs.EntriesLaw.{none_put, entry_room, entry_word, entry_put, entry_none, all_put, plane_next, plane_words_next, plane_none, plane_words_none}
use Rattle.writer.proofs.directory.Directory.put_plane_entries.Goals as goal
use Rattle.writer.proofs.directory.Directory.put_plane_entries.Goals.{then-is_protected, else-is_protected}

pub loop-row-init : goal.loop-row-init
loop-row-init c = none_put _ _ _ _ _ _ c.requires

pub plane_entry-requires : goal.plane_entry-requires
plane_entry-requires c = All-get_or (λ (r : Row). r.kind < 0x8000) c.args.self.rows.now c.loop-row.row-index no_row c.loop-row-test.true c.args.self.low

pub put_entry-next-requires : goal.put_entry-next-requires
put_entry-next-requires c =
    let l = c.loop-row-test.true in
    let t = sym c.is_protected.ensures ∙ c.if-is_protected.true in
    entry_room c.loop-row.invariant l _ _ (plane_next _ _ l t _) (plane_words_next _ _ l t)

pub overflow_add-offset : goal.overflow_add-offset
overflow_add-offset c =
    let l = c.loop-row-test.true in
    let t = sym c.is_protected.ensures ∙ c.if-is_protected.true in
    omega (arith, entry_word c.loop-row.invariant l _ _ (plane_next _ _ l t _) (plane_words_next _ _ l t), c.plane_words.ensures.is, c.args.self.planes_fit)

pub loop-row-preserved : goal.loop-row-preserved
loop-row-preserved c =
    let a = c.loop-row in
    let l = c.loop-row-test.true in
    elim c.if-is_protected.branch [
      | then-is_protected w ↦ let t = sym c.is_protected.ensures ∙ w.if-is_protected.true in
          rw (w.out-is, w.next-is, w.offset-is, w.plane_words.ensures.is) (entry_put a.invariant l _ _ (plane_next _ _ l t _) (plane_words_next _ _ l t) w.plane_entry.ensures w.put_entry-next.ensures)
      | else-is_protected w ↦ let t = sym c.is_protected.ensures ∙ w.if-is_protected.false in
          rw (w.out-is, w.next-is, w.offset-is) (entry_none a.invariant l (plane_none _ _ l t _) (plane_words_none _ _ l t))
    ]

pub shape_of-out : goal.shape_of-out
shape_of-out c = kept_length _ _ _ c.loop-row.invariant.going

pub returns : goal.returns
unfolding plane_entries
returns c = all_put c.loop-row.invariant (omega arith) refl
