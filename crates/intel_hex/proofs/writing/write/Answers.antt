use Rattle.std.proofs.Common.{◌≤◌, length, arith}
use Rattle.model.specs.Hex.{hex_text}
use Rattle.error.specs.declared.Refusal.TheVariants.{TooLarge, NoRoom}
use Rattle.hex_laws.proofs.HexLength.{hex_length}
use Rattle.intel_hex.proofs.AnswerLaw.{told_refused, told_put, write_large, write_no_room, write_fine}
use Rattle.intel_hex.proofs.writing.write.Goals as goal

-- `intel_hex::writing::write` meets its contract. Assumes nothing.
pub returns-then-bytes-gt-MAX_IMAGE_BYTES : goal.returns-then-bytes-gt-MAX_IMAGE_BYTES
returns-then-bytes-gt-MAX_IMAGE_BYTES c =
    let g = c.args in
    let told = told_refused _ TooLarge g.text.now (write_large g.bytes.now _ (omega arith)) in
    record { is = told.0; leaves = told.1.0; fits = told.1.1 }

pub returns-then-text-text_length : goal.returns-then-text-text_length
returns-then-text-text_length c =
    let g = c.args in
    let told = told_refused _ NoRoom g.text.now (write_no_room g.bytes.now _ (omega arith) (omega (arith, hex_length g.bytes.now))) in
    record { is = told.0; leaves = told.1.0; fits = told.1.1 }

pub put_text-requires : goal.put_text-requires
put_text-requires c = record { room = omega (arith, hex_length c.args.bytes.now); small = omega arith }

pub returns : goal.returns
returns c =
    let g = c.args in
    let fits : length (hex_text g.bytes.now) ≤ length g.text.now = omega (arith, hex_length g.bytes.now) in
    let told = told_put _ (hex_text g.bytes.now) g.text.now _ _ (write_fine g.bytes.now _ (omega arith) fits) fits c.put_text.ensures in
    record { is = told.0; leaves = told.1.0; fits = told.1.1 }
