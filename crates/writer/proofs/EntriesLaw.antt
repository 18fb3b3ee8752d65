-- Loops over rows that put entries, one row at a time. Assumes nothing.
use Rattle.std.proofs.Common.{◌≡◌, ℕ, ◌+◌, ◌<◌, ◌≤◌, zero-le, Bool, true, false, cond, List, [], ◌∷◌, ◌++◌, length, drop, refl, ap, ◌∙◌, subst, arith}
use Rattle.model.specs.Layout.{Entry}
use Rattle.model.specs.Writer as model
use Rattle.model.specs.Writer.{protected_row, plane_words, row_entry, row_entries, plane_entry, plane_entries, planes_words, entry_bytes, entries_bytes}
use Rattle.plan.specs.declared.rows.Row.{Row}
use Rattle.plan.specs.Rows.{as_row, as_plan}
use Rattle.lemmas.proofs.ImageLaw.{length_entry}
use Rattle.put.specs.Put.{Put}
use Rattle.put.proofs.PutLaw.{Going, begin, go_on, gone, fits}
use Rattle.plan.proofs.RowsLaw.{row_at, rows_end, rows_next, planes_next}

-- The entries f of rows, packed from a word on, which take `sum` words: those of i rows are put, and the next one starts at word a.
pub record EntriesGo (f : ℕ → List model.Row → List Entry) (sum : List model.Row → ℕ) (o₀ : List ℕ) (p₀ : ℕ) (xs : List Row) (a₀ : ℕ) (o : List ℕ) (p a i : ℕ) : Type 0 where
  pub some : i ≤ length xs
  pub going : Going o₀ p₀ (entries_bytes (f a₀ (as_plan xs))) o p (entries_bytes (f a (as_plan (drop i xs))))
  pub total : a + sum (as_plan (drop i xs)) ≡ a₀ + sum (as_plan xs)

pub none_put : (f : ℕ → List model.Row → List Entry) (sum : List model.Row → ℕ) (o : List ℕ) (p : ℕ) (xs : List Row) (a : ℕ) → p + length (entries_bytes (f a (as_plan xs))) ≤ length o → EntriesGo f sum o p xs a o p a 0
none_put f sum o p xs a h = record { some = zero-le; going = begin o p _ h; total = refl }

module _ {f : ℕ → List model.Row → List Entry} {sum : List model.Row → ℕ} {o₀ : List ℕ} {p₀ : ℕ} {xs : List Row} {a₀ : ℕ} {o : List ℕ} {p a i : ℕ} (g : EntriesGo f sum o₀ p₀ xs a₀ o p a i) where
  abbrev all : List ℕ
  all = entries_bytes (f a₀ (as_plan xs))

  -- the next row has an entry e, of w words
  module _ (l : i < length xs) (e : Entry) (w : ℕ) (n : f a (as_plan (drop i xs)) ≡ e ∷ f (a + w) (as_plan (drop (i + 1) xs))) (m : sum (as_plan (drop i xs)) ≡ w + sum (as_plan (drop (i + 1) xs))) where
    here : Going o₀ p₀ all o p (entry_bytes e ++ entries_bytes (f (a + w) (as_plan (drop (i + 1) xs))))
    unfolding entries_bytes
    here = subst (Going o₀ p₀ all o p) (ap entries_bytes n) g.going

    pub entry_room : p + 16 ≤ length o
    entry_room = omega (arith, fits o p (entry_bytes e) _ here, length_entry e)

    pub entry_word : a + w ≤ a₀ + sum (as_plan xs)
    entry_word = omega (arith, g.total, m)

    pub entry_put : {d : Entry} {r : ℕ} {o' : List ℕ} → d ≡ e → Put o p (entry_bytes d) r o' → EntriesGo f sum o₀ p₀ xs a₀ o' r (a + w) (i + 1)
    entry_put {d} {r} {o'} h q = record {
      some = omega arith;
      going = go_on o p (entry_bytes e) _ here (subst (λ (x : Entry). Put o p (entry_bytes x) r o') h q);
      total = omega (arith, g.total, m);
    }

  -- it has none
  pub entry_none : i < length xs → f a (as_plan (drop i xs)) ≡ f a (as_plan (drop (i + 1) xs)) → sum (as_plan (drop i xs)) ≡ sum (as_plan (drop (i + 1) xs)) → EntriesGo f sum o₀ p₀ xs a₀ o p a (i + 1)
  entry_none l n m = record { some = omega arith; going = subst (Going o₀ p₀ all o p) (ap entries_bytes n) g.going; total = omega (arith, g.total, m) }

  pub all_put : length xs ≤ i → f a [] ≡ [] → Put o₀ p₀ all p o
  unfolding entries_bytes
  all_put l n = gone o p (subst (Going o₀ p₀ all o p) (ap (λ (rs : List model.Row). entries_bytes (f a rs)) (rows_end xs i l) ∙ ap entries_bytes n) g.going)

-- ---- the next row's entry, and its plane's

module _ (xs : List Row) (i : ℕ) (l : i < length xs) where
  abbrev row : model.Row
  row = as_row (row_at xs i)

  abbrev rest : List model.Row
  rest = as_plan (drop (i + 1) xs)

  pub row_next : (a : ℕ) → row_entries a (as_plan (drop i xs)) ≡ row_entry a row ∷ row_entries (a + row.words) rest
  unfolding row_entries
  row_next a = ap (row_entries a) (rows_next xs i l)

  entries_by : (a : ℕ) (t : Bool) → protected_row row ≡ t → plane_entries a (as_plan (drop i xs)) ≡ cond t (plane_entry a row ∷ plane_entries (a + plane_words row) rest) (plane_entries a rest)
  unfolding plane_entries
  entries_by a t h = ap (plane_entries a) (rows_next xs i l) ∙ ap (λ (z : Bool). cond z (plane_entry a row ∷ plane_entries (a + plane_words row) rest) (plane_entries a rest)) h

  words_by : (t : Bool) → protected_row row ≡ t → planes_words (as_plan (drop i xs)) ≡ cond t (plane_words row) 0 + planes_words rest
  words_by t h = planes_next xs i l ∙ ap (λ (z : Bool). cond z (plane_words row) 0 + planes_words rest) h

  module _ (h : protected_row row ≡ true) where
    pub plane_next : (a : ℕ) → plane_entries a (as_plan (drop i xs)) ≡ plane_entry a row ∷ plane_entries (a + plane_words row) rest
    plane_next a = entries_by a true h

    pub plane_words_next : planes_words (as_plan (drop i xs)) ≡ plane_words row + planes_words rest
    plane_words_next = words_by true h

  module _ (h : protected_row row ≡ false) where
    pub plane_none : (a : ℕ) → plane_entries a (as_plan (drop i xs)) ≡ plane_entries a rest
    plane_none a = entries_by a false h

    pub plane_words_none : planes_words (as_plan (drop i xs)) ≡ planes_words rest
    plane_words_none = omega (arith, words_by false h)
