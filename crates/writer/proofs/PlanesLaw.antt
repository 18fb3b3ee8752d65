-- The loop over rows that puts planes, one row at a time. Assumes nothing.
use Rattle.std.proofs.Common.{◌≡◌, ℕ, ◌+◌, ◌-◌, ◌*◌, ◌<◌, ◌≤◌, zero-le, Bool, true, false, cond, List, [], ◌++◌, length, take, drop, replicate, sym, ap, ap₂, ◌∙◌, subst, arith, length-drop}
use Rattle.model.specs.Writer as model
use Rattle.model.specs.Writer.{protected_row, plane_words, row_words_lem, checks, plane_bytes, planes_bytes}
use Rattle.plan.specs.declared.rows.Row.{Row}
use Rattle.plan.specs.Rows.{as_row, as_plan}
use Rattle.put.specs.Put.{Put}
use Rattle.put.proofs.PutLaw.{Going, begin, go_on, gone, fits}
use Rattle.plan.proofs.RowsLaw.{row_at, rows_end, rows_next, words_next}
use Rattle.writer.proofs.ChecksLaw.{checks_take}

-- the planes of i rows are put, and d is the payload of the rows that are left
pub record PlanesPut (o₀ : List ℕ) (p₀ : ℕ) (xs : List Row) (b o : List ℕ) (p : ℕ) (d : List ℕ) (i : ℕ) : Type 0 where
  pub some : i ≤ length xs
  pub going : Going o₀ p₀ (planes_bytes (as_plan xs) b) o p (planes_bytes (as_plan (drop i xs)) d)
  pub full : length d ≡ 8 * row_words_lem (as_plan (drop i xs))

pub none_put : (o : List ℕ) (p : ℕ) (xs : List Row) (b : List ℕ) → p + length (planes_bytes (as_plan xs) b) ≤ length o → length b ≡ 8 * row_words_lem (as_plan xs) → PlanesPut o p xs b o p b 0
none_put o p xs b h e = record { some = zero-le; going = begin o p _ h; full = e }

module _ {o₀ : List ℕ} {p₀ : ℕ} {xs : List Row} {b o : List ℕ} {p : ℕ} {d : List ℕ} {i : ℕ} (g : PlanesPut o₀ p₀ xs b o p d i) where
  module _ (l : i < length xs) where
    abbrev row : Row
    row = row_at xs i

    abbrev rest : List model.Row
    rest = as_plan (drop (i + 1) xs)

    pub enough : 8 * row.words ≤ length d
    enough = omega (arith, g.full, words_next xs i l)

    -- the row's words, and what is left behind them
    module _ (words behind : List ℕ) (e : words ≡ take (8 * row.words) d) (f : behind ≡ drop (8 * row.words) d) where
      full_behind : length behind ≡ 8 * row_words_lem rest
      full_behind = omega (arith, ap length f, length-drop (8 * row.words) d, g.full, words_next xs i l)

      same_plane : plane_bytes (as_row row) d ≡ plane_bytes (as_row row) words
      unfolding plane_bytes
      same_plane = ap (λ (c : List ℕ). c ++ replicate (8 * plane_words (as_row row) - row.words) 0) (sym (ap (checks row.words) e ∙ checks_take row.words d))

      next : (t : Bool) → protected_row (as_row row) ≡ t → planes_bytes (as_plan (drop i xs)) d ≡ cond t (plane_bytes (as_row row) words) [] ++ planes_bytes rest behind
      unfolding planes_bytes
      next t h =
          ap (λ (rs : List model.Row). planes_bytes rs d) (rows_next xs i l)
          ∙ ap (λ (z : Bool). cond z (plane_bytes (as_row row) d) [] ++ planes_bytes rest (drop (8 * row.words) d)) h
          ∙ ap₂ (λ (x y : List ℕ). cond t x [] ++ planes_bytes rest y) same_plane (sym f)

      module _ (h : protected_row (as_row row) ≡ true) where
        here : Going o₀ p₀ (planes_bytes (as_plan xs) b) o p (plane_bytes (as_row row) words ++ planes_bytes rest behind)
        here = subst (Going o₀ p₀ (planes_bytes (as_plan xs) b) o p) (next true h) g.going

        pub plane_room : p + length (plane_bytes (as_row row) words) ≤ length o
        plane_room = fits o p (plane_bytes (as_row row) words) _ here

        pub plane_put : {r : ℕ} {o' : List ℕ} → Put o p (plane_bytes (as_row row) words) r o' → PlanesPut o₀ p₀ xs b o' r behind (i + 1)
        plane_put q = record { some = omega arith; going = go_on o p (plane_bytes (as_row row) words) _ here q; full = full_behind }

      pub plane_skip : protected_row (as_row row) ≡ false → PlanesPut o₀ p₀ xs b o p behind (i + 1)
      plane_skip h = record { some = omega arith; going = subst (Going o₀ p₀ (planes_bytes (as_plan xs) b) o p) (next false h) g.going; full = full_behind }

  pub all_put : length xs ≤ i → Put o₀ p₀ (planes_bytes (as_plan xs) b) p o
  unfolding planes_bytes
  all_put l = gone o p (subst (λ (rs : List model.Row). Going o₀ p₀ (planes_bytes (as_plan xs) b) o p (planes_bytes rs d)) (rows_end xs i l) g.going)
