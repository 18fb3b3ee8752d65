-- The refusals that speak of sizes, one by one. Assumes nothing.
use Rattle.std.proofs.Common.{◌≡◌, ℕ, ◌*◌, ◌<◌, ◌≤◌, not, eqb, ltb, List, length, ltb-false, le-ltb, lt-ltb, eq-eqb, ne_eqb, eqb-true}
use borrow.Author.Tests.{not-false}
use Rattle.model.specs.Refusals.{fine, refuse, bad_plan, too_large_lem, no_room_lem, ◌then◌, refuse_if}
use Rattle.model.specs.Writer.{Row, row_words_lem, image_length}
use Rattle.model.proofs.ParseLaw.{not_refused}
use Rattle.lemmas.proofs.VerdictLaw.{passed}
use Rattle.plan.specs.Sizes.{sizes_verdict}

module _ (rs : List Row) (payload : List ℕ) (room : ℕ) where
  pub other_length : (length payload ≡ 8 * row_words_lem rs → ⊥) → sizes_verdict rs payload room ≡ refuse bad_plan (length rs)
  unfolding sizes_verdict
  other_length h = simp (ne_eqb (length payload) (8 * row_words_lem rs) h)

  module _ (e : length payload ≡ 8 * row_words_lem rs) where
    pub too_large : 8388608 < image_length rs → sizes_verdict rs payload room ≡ refuse too_large_lem 0
    unfolding sizes_verdict
    too_large h = simp (eq-eqb (length payload) (8 * row_words_lem rs) e, lt-ltb 8388608 (image_length rs) h)

    module _ (s : image_length rs ≤ 8388608) where
      pub no_room : room < image_length rs → sizes_verdict rs payload room ≡ refuse no_room_lem 0
      unfolding sizes_verdict
      no_room h = simp (eq-eqb (length payload) (8 * row_words_lem rs) e, le-ltb 8388608 (image_length rs) s, lt-ltb room (image_length rs) h)

      pub all_fits : image_length rs ≤ room → sizes_verdict rs payload room ≡ fine
      unfolding sizes_verdict
      all_fits h = simp (eq-eqb (length payload) (8 * row_words_lem rs) e, le-ltb 8388608 (image_length rs) s, le-ltb room (image_length rs) h)

-- ---- what it says of a plan that nothing refuses it

module _ (rs : List Row) (payload : List ℕ) (room : ℕ) (e : sizes_verdict rs payload room ≡ fine) where
  taken_apart : (length payload ≡ 8 * row_words_lem rs) × (image_length rs ≤ 8388608) × (image_length rs ≤ room)
  unfolding sizes_verdict
  taken_apart =
      let a = passed (not (eqb (length payload) (8 * row_words_lem rs))) 14 (length rs) (refuse_if (ltb 8388608 (image_length rs)) 11 0 then refuse_if (ltb room (image_length rs)) 13 0) e in
      let b = passed (ltb 8388608 (image_length rs)) 11 0 (refuse_if (ltb room (image_length rs)) 13 0) a.1 in
      let c = not_refused (ltb room (image_length rs)) 13 0 b.1 in (
        eqb-true (length payload) (8 * row_words_lem rs) (not-false (eqb (length payload) (8 * row_words_lem rs)) a.0),
        ltb-false 8388608 (image_length rs) b.0,
        ltb-false room (image_length rs) c,
      )

  pub fine_full : length payload ≡ 8 * row_words_lem rs
  fine_full = taken_apart.0

  pub fine_small : image_length rs ≤ 8388608
  fine_small = taken_apart.1

  pub fine_room : image_length rs ≤ room
  fine_room = taken_apart.2
