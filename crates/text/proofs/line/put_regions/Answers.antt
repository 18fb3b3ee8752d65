use mathlib.Core.Path.{sym, subst}
use mathlib.Core.Bool.{Bool}
use Rattle.put.specs.Put.{Put}
use native.Mathlib.Omega.{arith}
use Rattle.model.specs.Programs.{text, field, regions_line}
use Rattle.put.proofs.PutLaw.{put_two}
use Rattle.text.proofs.line.put_regions.Goals as goal

-- `text::line::put_regions` meets its contract: a field, and one of two texts. Assumes nothing.
pub returns-then-needs_scrub : goal.returns-then-needs_scrub
unfolding regions_line field text
returns-then-needs_scrub c =
    let a = c.args in
    let count = c.put_field-wanted in
    let all = c.put_bytes in record {
      is = subst (λ (b : Bool). Put a.out.now a.at (regions_line a.region_count b) all.result all.new.out) (sym c.if-needs_scrub.true)
          (put_two a.out.now a.at _ _ count.ensures.is all.ensures);
      few = omega (arith, count.ensures.few, all.ensures.behind);
    }

pub returns-else-needs_scrub : goal.returns-else-needs_scrub
unfolding regions_line field text
returns-else-needs_scrub c =
    let a = c.args in
    let count = c.put_field-wanted in
    let all = c.put_bytes-else-needs_scrub in record {
      is = subst (λ (b : Bool). Put a.out.now a.at (regions_line a.region_count b) all.result all.new.out) (sym c.if-needs_scrub.false)
          (put_two a.out.now a.at _ _ count.ensures.is all.ensures);
      few = omega (arith, count.ensures.few, all.ensures.behind);
    }
