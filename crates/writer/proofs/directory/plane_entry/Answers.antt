use Rattle.std.proofs.Common.{◌+◌}
use Rattle.model.specs.Writer.{plane_entry}
use Rattle.writer.proofs.directory.plane_entry.Goals as goal

-- `writer::directory::plane_entry` meets its contract. Assumes nothing.
pub returns : goal.returns
unfolding plane_entry
returns c = λ j. record { kind = 0x8000 + c.args.row.kind; flags = 8; offset = c.args.offset; words = c.plane_words.ensures.is j; covers = c.args.row.kind; reserved = 0 }
