-- The rows from i on, one row at a time: what a loop over them needs. Assumes nothing.
use Rattle.std.proofs.Common.{◌≡◌, ℕ, suc, ◌+◌, ◌<◌, ◌≤◌, cond, List, [], ◌∷◌, length, get_or, drop, sym, refl, ap, ◌∙◌, add-one, drop_of_length-le, drop-cons}
use Rattle.model.specs.Writer.{protected_row, plane_words, row_words_lem, planes_words}
use Rattle.plan.specs.declared.rows.Row.{Row}
use Rattle.plan.specs.Rows.{as_row, as_plan}

-- what stands past the end
abbrev pub no_row : Row
no_row = record { kind = 0; flags = 0; words = 0 }

abbrev pub row_at : List Row → ℕ → Row
row_at rows i = get_or rows i no_row

pub length_plan : (rs : List Row) → length (as_plan rs) ≡ length rs
unfolding as_plan
length_plan [] = refl
length_plan (r ∷ rs) = ap suc (length_plan rs)

module _ (rows : List Row) (i : ℕ) where
  pub rows_end : length rows ≤ i → as_plan (drop i rows) ≡ []
  unfolding as_plan
  rows_end l = ap as_plan (drop_of_length-le rows l)

  module _ (l : i < length rows) where
    pub rows_next : as_plan (drop i rows) ≡ as_row (row_at rows i) ∷ as_plan (drop (i + 1) rows)
    unfolding as_plan
    rows_next = ap as_plan (drop-cons rows i no_row l) ∙ ap (λ (k : ℕ). as_row (row_at rows i) ∷ as_plan (drop k rows)) (sym (add-one i))

    pub words_next : row_words_lem (as_plan (drop i rows)) ≡ (row_at rows i).words + row_words_lem (as_plan (drop (i + 1) rows))
    unfolding row_words_lem
    words_next = ap row_words_lem rows_next

    pub planes_next : planes_words (as_plan (drop i rows)) ≡ cond (protected_row (as_row (row_at rows i))) (plane_words (as_row (row_at rows i))) 0 + planes_words (as_plan (drop (i + 1) rows))
    unfolding planes_words
    planes_next = ap planes_words rows_next
