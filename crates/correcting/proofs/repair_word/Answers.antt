use mathlib.Core.Path.{refl, ap, ◌∙◌}
use mathlib.Core.List.{List}
use Prim.Native.Nat.{ℕ, ◌+◌, ◌-◌, ◌*◌}
use native.Mathlib.Omega.{arith}
use lib.Seq.{sets}
use borrow.Rule.Slice.PartMut.{put_mid}
use Rattle.model.specs.Bytes.{le_bytes}
use Rattle.model.proofs.BytesLaw.{length_le_bytes}
use Rattle.scan.proofs.WordLaw.{decoded}
use Rattle.put.proofs.PutLaw.{came_back}
use Rattle.correcting.proofs.CorrectLaw.{kept_clean, kept_uncorrectable, put_corrected, read_part}
use Rattle.correcting.proofs.repair_word.Goals as goal

-- `correcting::repair_word` meets its contract. Assumes nothing.
pub returns-in-Clean : goal.returns-in-Clean
returns-in-Clean c =
    let u = c.u64_or_zero-data in
    let g = c.args in
    let d = read_part g.bytes.now (8 * g.word) u.result (omega (arith, c.requires.0)) u.ensures in
    record {
      is = decoded g.bytes.now g.word g.check u.result c.requires.0 d c.decode_word-status.ensures;
      stores = kept_clean g.with_check g.bytes.now (record { word = g.word; check = g.check }) _ (decoded g.bytes.now g.word g.check u.result c.requires.0 d c.in-Clean.ensures);
    }

pub shape_of-bytes-in-Corrected : goal.shape_of-bytes-in-Corrected
shape_of-bytes-in-Corrected c = omega arith

pub returns-in-Corrected : goal.returns-in-Corrected
returns-in-Corrected c =
    let u = c.u64_or_zero-data in
    let g = c.args in
    let d = read_part g.bytes.now (8 * g.word) u.result (omega (arith, c.requires.0)) u.ensures in
    let v = c.in-Corrected.fixed in
    let y = c.store_check.new.bytes in
    let a = 8 * g.word in
    let e = decoded g.bytes.now g.word g.check u.result c.requires.0 d c.in-Corrected.ensures in record {
      is = e;
      stores = ap (put_mid a (a + 8 - a) y) c.store_word.ensures
          ∙ (came_back y (le_bytes 8 v) a 8 (length_le_bytes 8 v) (omega (arith, c.requires.0, c.store_check.auto.bytes)) refl).stored
          ∙ ap (λ (z : List ℕ). sets z a (le_bytes 8 v)) c.store_check.ensures ∙ put_corrected g.with_check g.bytes.now (record { word = g.word; check = g.check }) v e;
    }

pub returns-in-Uncorrectable : goal.returns-in-Uncorrectable
returns-in-Uncorrectable c =
    let u = c.u64_or_zero-data in
    let g = c.args in
    let d = read_part g.bytes.now (8 * g.word) u.result (omega (arith, c.requires.0)) u.ensures in
    record {
      is = decoded g.bytes.now g.word g.check u.result c.requires.0 d c.decode_word-status.ensures;
      stores = kept_uncorrectable g.with_check g.bytes.now (record { word = g.word; check = g.check }) (decoded g.bytes.now g.word g.check u.result c.requires.0 d c.in-Uncorrectable.ensures);
    }
