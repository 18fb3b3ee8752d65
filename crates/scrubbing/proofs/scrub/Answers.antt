use mathlib.Core.Path.{◌≡◌, refl, sym, ap, ap₂, ◌∙◌, subst}
use mathlib.Core.Bool.{Bool, false}
use mathlib.Core.List.{List, []}
use Rattle.std.specs.Prelude.{Option, None, Some, MatchOption}
use borrow.Author.Tests.{ltb-false}
use lib.Dec.{ltb}
use Rattle.ecc.specs.declared.EccReport.{EccReport}
use Prim.Native.Nat.{ℕ, suc, ◌+◌, ◌-◌, ◌<◌}
use native.Mathlib.Omega.{arith}
use Rattle.model.specs.Refusals.{fine}
use Rattle.model.specs.Layout.{count}
use Rattle.model.specs.Parse.{parse_verdict}
use Rattle.model.specs.Scan.{Report, codewords_in}
use Rattle.model.specs.Scrub.{State, Scrubbed, scrub_from, reported}
use Rattle.model.specs.Scrub as model
use Rattle.view.specs.declared.header.Header.{Header}
use Rattle.view.proofs.AnswersLaw.{parsed_fine, parsed_count, parsed_refused}
use Rattle.scan.specs.Answers.{as_scan}
use Rattle.scan.specs.Tally as scan
use Rattle.scan.specs.Tally.{or_zeros, Bounded}
use Rattle.scan.specs.Runs.{visits_at}
use Rattle.correcting.specs.Correct.{correct_all, met}
use Rattle.scan.proofs.TallyLaw.{together_words, bounded_given}
use Rattle.scrubbing.specs.Stands.{Stands, scrub_in}
use Rattle.scrubbing.proofs.ScrubbingLaw.{region_stands, image_same, region_is, from_next, from_failed, from_done, scrub_failed, scrub_starts, start_stands}
use Rattle.scrubbing.proofs.scrub.Invariants.{Checked, Goes}
use Rattle.scrubbing.proofs.scrub.Goals as goal
use Rattle.scrubbing.proofs.scrub.Goals.{then-written+in-Ok-parse, else-written}

-- a report that asks for no scrub has corrected nothing
none_wanted : (o : Option EccReport) (t : Bool) → MatchOption o (t ≡ false) (λ r. t ≡ ltb 0 r.corrected) → t ≡ false → (or_zeros (as_scan o)).corrected ≡ 0
none_wanted None t h e = refl
none_wanted (Some r) t h e = omega (arith, ltb-false 0 r.corrected (sym h ∙ e))

-- where nothing was corrected, the image parses as it did
still : (n i : ℕ) (x y : List ℕ) (h : Header) (r : Option Report) → Checked x h
    → r ≡ scan.reported (visits_at n x i) (met false x (codewords_in (visits_at n x i))) → y ≡ correct_all false (codewords_in (visits_at n x i)) x
    → (or_zeros r).corrected ≡ 0 → Checked y h
still n i x y h r k e f z = subst (λ (w : List ℕ). Checked w h) (sym (image_same n i x y r e f z)) k

-- a turn: region i is scrubbed in an image that is known to parse
module _ (x₀ : List ℕ) (n i : ℕ) (o o' : Option Report) (x y : List ℕ) (h : Header) (k : Checked x h) (l : i < n) (g : Goes x₀ n i o x)
    (e : (s : State) → Stands o x s → Stands o' y (scrub_in h.region_count i s)) where
  turn : Goes x₀ n (i + 1) o' y
  turn =
      let s = g.state in
      let m : n - i ≡ suc (n - (i + 1)) = omega arith in
      let j : i + 1 ≡ suc i = omega arith in
      let f : parse_verdict s.image ≡ fine = ap parse_verdict (sym g.stands.image) ∙ k.fine_now in
      record {
        state = scrub_in h.region_count i s;
        stands = e s g.stands;
        ends =
            ap₂ (scrub_from (n - (i + 1))) j (region_is h.region_count i s f (k.count_now ∙ ap count g.stands.image))
            ∙ sym (ap (λ (z : ℕ). scrub_from z i s) m ∙ from_next (n - (i + 1)) i s f) ∙ g.ends;
      }

abbrev record_of : State → Scrubbed
record_of s = record { image = s.image; report = reported s }

pub returns-in_default : goal.returns-in_default
returns-in_default c =
    let x = c.args.bytes.now in
    let e = scrub_failed x _ _ (parsed_refused x c.parse.result c.parse.ensures _ c.in_default.is) in
    record { is = ap (λ (s : Scrubbed). s.report) (sym e); leaves = ap (λ (s : Scrubbed). s.image) (sym e) }

pub loop-i-init : goal.loop-i-init
loop-i-init c =
    let x = c.args.bytes.now in
    let f = parsed_fine x c.parse.result c.parse.ensures c.in-Ok.first c.in-Ok.is in
    let n = parsed_count x c.parse.result c.parse.ensures c.in-Ok.first c.in-Ok.is in
    let z : c.in-Ok.first.region_count - 0 ≡ count x = omega (arith, n) in (
      refl,
      omega arith,
      record {
        state = record { image = x; met = []; visited = false };
        stands = start_stands x;
        ends = ap (λ (m : ℕ). scrub_from m 0 (record { image = x; met = []; visited = false })) z ∙ sym (scrub_starts x f);
      },
      λ q. record { fine_now = f; count_now = n },
    )

pub shape_of-bytes-in_default-parse : goal.shape_of-bytes-in_default-parse
shape_of-bytes-in_default-parse c = c.loop-i.invariant.0

pub returns-in_default-parse : goal.returns-in_default-parse
returns-in_default-parse c =
    let g = c.args in
    let n = c.in-Ok.first.region_count in
    let z : suc (n - (c.loop-i.i + 1)) ≡ n - c.loop-i.i = omega arith in
    let q = c.loop-i.invariant.2 in
    let s = q.state in
    let e : (record { image = s.image; report = None }) ≡ model.scrub g.bytes.now =
    sym (from_failed (n - (c.loop-i.i + 1)) c.loop-i.i s _ _ (ap parse_verdict (sym q.stands.image) ∙ parsed_refused c.loop-i.bytes c.parse-then-written.result c.parse-then-written.ensures _ c.in_default-parse.is))
    ∙ ap (λ (m : ℕ). scrub_from m c.loop-i.i s) z ∙ q.ends in
    record { is = ap (λ (r : Scrubbed). r.report) e; leaves = q.stands.image ∙ ap (λ (r : Scrubbed). r.image) e }

pub is_some_and-written-requires : goal.is_some_and-written-requires
is_some_and-written-requires c = λ x e. tt

pub together-total-requires : goal.together-total-requires
together-total-requires c =
    let l = c.loop-i in
    let s = l.invariant.2.state in
    let f = c.correct_region-found.ensures in (
      record {
        words = omega (arith, l.invariant.1, f.few);
        counts = subst (λ (o : Option Report). Bounded (or_zeros o)) (sym l.invariant.2.stands.counts) (bounded_given s.visited s.met);
      },
      subst (λ (o : Option Report). Bounded (or_zeros o)) (sym f.tells) (bounded_given _ _),
    )

pub loop-i-preserved : goal.loop-i-preserved
loop-i-preserved c =
    let g = c.args in
    let l = c.loop-i in
    let x = l.bytes in
    let n = c.in-Ok.first.region_count in
    let h = c.if-written.header in
    let f = c.correct_region-found in
    let y = f.new.bytes in
    let o = as_scan l.total in
    let r = as_scan f.result in
    let ready : Checked x h =
    elim c.if-written.branch [
      | then-written+in-Ok-parse w ↦ record {
        fine_now = parsed_fine x w.parse-then-written.result w.parse-then-written.ensures w.in-Ok-parse.again w.in-Ok-parse.is;
        count_now = ap (λ (h : Header). h.region_count) w.header-is ∙ parsed_count x w.parse-then-written.result w.parse-then-written.ensures w.in-Ok-parse.again w.in-Ok-parse.is;
      }
      | else-written w ↦ subst (Checked x) (sym w.header-is) (l.invariant.3 w.if-written.false)
    ] in
    let e : (s : State) → Stands o x s → Stands (as_scan c.together-total.result) y (scrub_in h.region_count l.i s) =
    λ s k. subst (λ (z : Option Report). Stands z y (scrub_in h.region_count l.i s)) (sym c.together-total.ensures)
    (region_stands h.region_count l.i o x s k r y f.ensures.tells f.ensures.leaves) in (
      omega (arith, f.auto.bytes),
      omega (arith, ap (λ (z : Option Report). (or_zeros z).words) c.together-total.ensures, together_words o r, l.invariant.1, f.ensures.few),
      turn g.bytes.now n l.i o (as_scan c.together-total.result) x y h ready (omega arith) l.invariant.2 e,
      λ w. still h.region_count l.i x y h r ready f.ensures.tells f.ensures.leaves (none_wanted f.result c.is_some_and-written.result c.is_some_and-written.ensures w),
    )

pub shape_of-bytes : goal.shape_of-bytes
shape_of-bytes c = c.loop-i.invariant.0

pub returns : goal.returns
returns c =
    let g = c.args in
    let n = c.in-Ok.first.region_count in
    let z : 0 ≡ n - c.loop-i.i = omega arith in
    let q = c.loop-i.invariant.2 in
    let s = q.state in
    let e : record_of s ≡ model.scrub g.bytes.now =
    sym (from_done c.loop-i.i s) ∙ ap (λ (m : ℕ). scrub_from m c.loop-i.i s) z ∙ q.ends in
    record { is = q.stands.counts ∙ ap (λ (r : Scrubbed). r.report) e; leaves = q.stands.image ∙ ap (λ (r : Scrubbed). r.image) e }
