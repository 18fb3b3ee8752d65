use Rattle.std.proofs.Common.{ℕ, List, length, ap, ◌∙◌, subst, arith}
use Rattle.put.specs.Put.{Put}
use Rattle.put.proofs.LinesLaw.{put_none}
use Rattle.intel_hex.proofs.RecordLaw.{line_of, length_line}
use Rattle.intel_hex.proofs.WritingLaw.{no_upper_first, no_upper_within, an_upper}
use Rattle.intel_hex.proofs.writing.put_upper.Goals as goal

-- `intel_hex::writing::put_upper` meets its contract. Assumes nothing.
pub returns-then-address-eq0 : goal.returns-then-address-eq0
returns-then-address-eq0 c = let g = c.args in subst (λ (t : List ℕ). Put g.text.now g.at t g.at g.text.now) (no_upper_first g.address c.if-address-eq0.true) (put_none _ _)

pub returns-then-address-ne0 : goal.returns-then-address-ne0
returns-then-address-ne0 c = let g = c.args in subst (λ (t : List ℕ). Put g.text.now g.at t g.at g.text.now) (no_upper_within g.address c.if-address-ne0.true) (put_none _ _)

pub put_record-requires : goal.put_record-requires
put_record-requires c =
    let h = c.upper_half.ensures in
    let e = an_upper c.args.address c.if-address-eq0.false c.if-address-ne0.false in
    record { room = omega (arith, c.requires.room, ap length h, ap length e, length_line 0 4 c.upper_half.result, ap (λ (b : List ℕ). length (line_of 0 4 b)) h); short = omega (arith, ap length h) }

pub returns : goal.returns
returns c =
    let h = c.upper_half.ensures in
    let e = an_upper c.args.address c.if-address-eq0.false c.if-address-ne0.false in
    subst (λ (t : List ℕ). Put c.args.text.now c.args.at t c.put_record.result c.put_record.new.text) (ap (λ (b : List ℕ). line_of 0 4 b) h ∙ e) c.put_record.ensures
