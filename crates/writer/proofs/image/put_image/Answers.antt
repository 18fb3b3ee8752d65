use Rattle.std.proofs.Common.{◌≡◌, ℕ, ◌*◌, ◌/◌, List, ◌++◌, length, ap, ap₂, ◌∙◌, subst, arith}
use Rattle.model.specs.Bytes.{thrice}
use Rattle.model.specs.Writer as model
use Rattle.model.specs.Writer.{regions, first_word, plan_directory, entries_bytes, prologue_bytes, planes_bytes, plan_image, image_length, row_words_lem}
use Rattle.model.specs.Layout.{header_length}
use Rattle.model.proofs.BytesLaw.{length_thrice}
use Rattle.lemmas.proofs.PlanCodewords.{length_planes}
use Rattle.plan.specs.declared.rows.Row.{Row}
use Rattle.plan.specs.Rows.{as_plan}
use Rattle.put.specs.Put.{Put}
use Rattle.writer.proofs.ImageLaw.{copy_of, copy_is, copy_length, image_length_lem}
use Rattle.writer.proofs.PrologueLaw.{prologues_length}
use Rattle.writer.proofs.WriteLaw.{Sized, sized}
use Rattle.put.proofs.PutLaw.{begin, go_on, last}
use Rattle.writer.proofs.image.put_image.Goals as goal

-- `writer::image::put_image` meets its contract. Assumes nothing.
pub overflow_cast-count : goal.overflow_cast-count
overflow_cast-count c = omega (arith, (sized c.args.rows.now c.args.regions c.args.payload.now c.args.out.now c.requires.counted c.requires.fine).small)

pub put_prologues-directory-requires : goal.put_prologues-directory-requires
unfolding image_length
put_prologues-directory-requires c = omega (arith, (sized c.args.rows.now c.args.regions c.args.payload.now c.args.out.now c.requires.counted c.requires.fine).room)

pub overflow_cast-first_word : goal.overflow_cast-first_word
overflow_cast-first_word c = omega (arith, c.header_length.ensures, (sized c.args.rows.now c.args.regions c.args.payload.now c.args.out.now c.requires.counted c.requires.fine).small)

-- ---- once the header's length h is known
module _ {xs : List Row} {payload out : List ℕ} {n h : ℕ} (s : Sized xs n payload out) (e : h ≡ header_length n) where
  -- one copy of the directory
  abbrev copy : List ℕ
  copy = copy_of (h / 8) (length payload / 8) (as_plan xs)

  first_word_lem : h / 8 ≡ first_word (as_plan xs)
  first_word_lem = omega (arith, e, s.counted)

  row_words : length payload / 8 ≡ row_words_lem (as_plan xs)
  row_words = omega (arith, s.full)

  copied : copy ≡ entries_bytes (plan_directory (as_plan xs))
  copied = copy_is _ _ (as_plan xs) first_word_lem row_words

  long : length copy ≡ 16 * regions (as_plan xs)
  long = ap length copied ∙ copy_length (as_plan xs)

  long_thrice : length (thrice copy) ≡ 3 * (16 * regions (as_plan xs))
  long_thrice = length_thrice copy (16 * regions (as_plan xs)) long

pub overflow_cast-plane_word : goal.overflow_cast-plane_word
unfolding image_length
overflow_cast-plane_word c = let s = sized c.args.rows.now c.args.regions c.args.payload.now c.args.out.now c.requires.counted c.requires.fine in omega (arith, s.fits, row_words s c.header_length.ensures)

pub overflow_add-plane_word : goal.overflow_add-plane_word
unfolding image_length
overflow_add-plane_word c = let s = sized c.args.rows.now c.args.regions c.args.payload.now c.args.out.now c.requires.counted c.requires.fine in omega (arith, s.fits, first_word_lem s c.header_length.ensures, row_words s c.header_length.ensures)

pub invariant_of-copies : goal.invariant_of-copies
unfolding image_length
invariant_of-copies c =
    let s = sized c.args.rows.now c.args.regions c.args.payload.now c.args.out.now c.requires.counted c.requires.fine in
    let h = c.header_length.ensures in
    record {
      regions_fit = omega (arith, s.fits, first_word_lem s h);
      planes_fit = omega (arith, s.fits, first_word_lem s h, row_words s h);
      low = s.low_kinds;
    }

pub put_copies-packed-requires : goal.put_copies-packed-requires
unfolding image_length
put_copies-packed-requires c =
    let s = sized c.args.rows.now c.args.regions c.args.payload.now c.args.out.now c.requires.counted c.requires.fine in
    let h = c.header_length.ensures in
    let p = c.put_prologues-directory.ensures in
    omega (arith, long s h, s.room, p.behind, p.long, prologues_length c.args.regions 0)

pub put_bytes-planes-requires : goal.put_bytes-planes-requires
unfolding image_length
put_bytes-planes-requires c =
    let s = sized c.args.rows.now c.args.regions c.args.payload.now c.args.out.now c.requires.counted c.requires.fine in
    let p = c.put_prologues-directory.ensures in
    let q = c.put_copies-packed.ensures in
    omega (arith, long_thrice s c.header_length.ensures, s.room, s.full, q.behind, q.long, p.behind, p.long, prologues_length c.args.regions 0)

pub put_planes-requires : goal.put_planes-requires
unfolding image_length
put_planes-requires c =
    let s = sized c.args.rows.now c.args.regions c.args.payload.now c.args.out.now c.requires.counted c.requires.fine in
    let p = c.put_prologues-directory.ensures in
    let q = c.put_copies-packed.ensures in
    let b = c.put_bytes-planes.ensures in
    record {
      room = omega (arith, long_thrice s c.header_length.ensures, s.room, s.full, b.behind, b.long, q.behind, q.long, p.behind, p.long, prologues_length c.args.regions 0, length_planes (as_plan c.args.rows.now) c.args.payload.now);
      full = s.full;
    }

pub returns : goal.returns
unfolding plan_image
returns c =
    let s = sized c.args.rows.now c.args.regions c.args.payload.now c.args.out.now c.requires.counted c.requires.fine in
    let h = c.header_length.ensures in
    let rs : List model.Row = as_plan c.args.rows.now in
    let payload : List ℕ = c.args.payload.now in
    let n : ℕ = c.args.regions in
    let o : List ℕ = c.args.out.now in
    let a : List ℕ = thrice (prologue_bytes n 0) in
    let d : List ℕ = thrice (copy s h) in
    let q : List ℕ = planes_bytes rs payload in
    let e : a ++ (d ++ (payload ++ q)) ≡ plan_image rs payload =
    ap₂ (λ (m : ℕ) (x : List ℕ). thrice (prologue_bytes m 0) ++ (thrice x ++ (payload ++ q))) s.counted (copied s h) in
    let g0 = begin o 0 (a ++ (d ++ (payload ++ q))) (omega (arith, s.room, ap length e, image_length_lem rs payload s.full)) in
    let g1 = go_on _ _ a (d ++ (payload ++ q)) g0 c.put_prologues-directory.ensures in
    let g2 = go_on _ _ d (payload ++ q) g1 c.put_copies-packed.ensures in
    let g3 = go_on _ _ payload q g2 c.put_bytes-planes.ensures in
    subst (λ (x : List ℕ). Put o 0 x c.put_planes.result c.put_planes.new.out) e (last _ _ q g3 c.put_planes.ensures)
