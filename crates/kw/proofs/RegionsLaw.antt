-- What a lookup hands out has its entry's numbers, and no entry is found past the last. Assumes nothing.
use mathlib.Core.Path.{◌≡◌, refl, ap, ◌∙◌}
use mathlib.Core.List.{List}
use Rattle.std.specs.Prelude.{Option, None, Some, Result, Ok}
use Prim.Native.Nat.{ℕ, ◌≤◌}
use native.Mathlib.Omega.{arith}
use Rattle.model.specs.Layout.{Entry, count}
use Rattle.model.specs.Parse.{Parsed, parse}
use Rattle.model.specs.Views.{entries_for, find_region, region_at}
use Rattle.model.proofs.WalkLaw.{nth_past}
use Rattle.view.specs.declared.header.Header.{Header}
use Rattle.error.specs.declared.Refusal.{Refusal}
use Rattle.view.specs.Answers.{as_parsed, found_as}
use Rattle.view.proofs.AnswersLaw.{parsed_count}
use Rattle.view.proofs.EntriesForLaw.{length_entries_for}
use Rattle.kw.specs.Regions.{place_numbers, region_numbers, entry_numbers, region_at_numbers, as_found}
use Rattle.kw.proofs.Told.{told}

pub none_past : (n : ℕ) (x : List ℕ) (i : ℕ) → n ≤ i → region_at n x i ≡ None
unfolding region_at
none_past n x i l = nth_past (entries_for n x) i (omega (arith, length_entries_for n x))

found_place : (o : Option Entry) → place_numbers (as_found (found_as o)) ≡ place_numbers o
found_place None = refl
found_place (Some e) = refl

found_entry : (o : Option Entry) → entry_numbers (as_found (found_as o)) ≡ entry_numbers o
found_entry None = refl
found_entry (Some e) = refl

-- of an image whose parse r gave the header h
module _ (x : List ℕ) (r : Result Header Refusal) (e : as_parsed r ≡ parse x) (h : Header) (d : r ≡ Ok h) where
  pub place_told : (k : ℕ) → place_numbers (as_found (found_as (find_region h.region_count x k))) ≡ region_numbers (parse x) (find_region (count x) x k)
  place_told k =
      found_place (find_region h.region_count x k)
      ∙ ap (λ (n : ℕ). place_numbers (find_region n x k)) (parsed_count x r e h d)
      ∙ told (λ (o : Parsed). region_numbers o (find_region (count x) x k)) as_parsed e d

  pub entry_told : (i : ℕ) → entry_numbers (as_found (found_as (region_at h.region_count x i))) ≡ region_at_numbers (parse x) (region_at (count x) x i)
  entry_told i =
      found_entry (region_at h.region_count x i)
      ∙ ap (λ (n : ℕ). entry_numbers (region_at n x i)) (parsed_count x r e h d)
      ∙ told (λ (o : Parsed). region_at_numbers o (region_at (count x) x i)) as_parsed e d
