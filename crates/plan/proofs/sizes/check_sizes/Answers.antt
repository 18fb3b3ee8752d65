use Rattle.std.proofs.Common.{sym, ap, ◌∙◌, arith}
use Rattle.model.specs.Refusals.{refuse, bad_plan}
use Rattle.model.specs.Writer.{image_length}
use Rattle.plan.specs.Rows.{as_plan}
use Rattle.plan.proofs.SizesLaw.{other_length, too_large, no_room, all_fits}
use Rattle.plan.proofs.RowsLaw.{length_plan}
use Rattle.plan.proofs.sizes.check_sizes.Goals as goal

-- `plan::sizes::check_sizes` meets its contract: the refusals in their order. Assumes nothing.
pub returns-then-payload-words : goal.returns-then-payload-words
returns-then-payload-words c =
    ap (refuse bad_plan) (sym (length_plan c.args.rows.now))
    ∙ sym (other_length (as_plan c.args.rows.now) c.args.payload.now c.args.room (λ e. c.if-payload-words.true (omega (arith, e, c.count_words-words.ensures.words))))

-- ---- once all words are counted: the payload is as long as the rows say, and the length is the image's
pub returns-then-length-gt-MAX_IMAGE_BYTES : goal.returns-then-length-gt-MAX_IMAGE_BYTES
unfolding image_length
returns-then-length-gt-MAX_IMAGE_BYTES c =
    sym (too_large (as_plan c.args.rows.now) c.args.payload.now c.args.room (omega arith) (omega arith))

pub returns-then-room-length : goal.returns-then-room-length
unfolding image_length
returns-then-room-length c =
    sym (no_room (as_plan c.args.rows.now) c.args.payload.now c.args.room (omega arith) (omega arith) (omega arith))

pub returns : goal.returns
unfolding image_length
returns c =
    sym (all_fits (as_plan c.args.rows.now) c.args.payload.now c.args.room (omega arith) (omega arith) (omega arith))
