use Rattle.std.proofs.Common.{refl, arith}
use Rattle.model.specs.Writer.{row_entries}
use Rattle.plan.proofs.RowsLaw.{words_next}
use Rattle.put.proofs.PutLaw.{kept_length}
use Rattle.writer.proofs.EntriesLaw.{none_put, entry_room, entry_word, entry_put, all_put, row_next}
use Rattle.writer.proofs.directory.Directory.put_row_entries.Goals as goal

pub loop-row-init : goal.loop-row-init
loop-row-init c = none_put _ _ _ _ _ _ c.requires

pub put_entry-next-requires : goal.put_entry-next-requires
put_entry-next-requires c = let l = c.loop-row-test.true in entry_room c.loop-row.invariant l _ _ (row_next _ _ l _) (words_next _ _ l)

pub overflow_add-offset : goal.overflow_add-offset
overflow_add-offset c = let l = c.loop-row-test.true in omega (arith, entry_word c.loop-row.invariant l _ _ (row_next _ _ l _) (words_next _ _ l), c.args.self.regions_fit)

pub loop-row-preserved : goal.loop-row-preserved
loop-row-preserved c = let l = c.loop-row-test.true in entry_put c.loop-row.invariant l _ _ (row_next _ _ l _) (words_next _ _ l) c.row_entry.ensures c.put_entry-next.ensures

pub shape_of-out : goal.shape_of-out
shape_of-out c = kept_length _ _ _ c.loop-row.invariant.going

pub returns : goal.returns
unfolding row_entries
returns c = all_put c.loop-row.invariant (omega arith) refl
