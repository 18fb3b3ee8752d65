-- The kinds of the entries, and whether one is among them. Assumes nothing.
use mathlib.Core.Path.{◌≡◌, refl, sym, ap, ◌∙◌}
use mathlib.Core.Bool.{Bool, true, false, ◌||◌, or-true}
use mathlib.Core.List.{List, [], ◌∷◌}
use Prim.Native.Nat.{ℕ, zero, suc, ◌+◌, ◌*◌, ◌≤◌, ◌<◌}
use native.Mathlib.Numerals.{add-one}
use borrow.Author.Tests.{eq-eqb, ne_eqb}
use lib.Dec.{eqb}
use lib.ListN.{length, get_or, drop}
use lib.Seq.{drop-cons}
use lib.ListN.{drop_of_length-le}
use Rattle.model.specs.Bytes.{read}
use Rattle.model.specs.Layout.{Entry, voted, directory_bytes_of, directory_of, entries}
use Rattle.model.specs.Parse.{among}
use Rattle.model.proofs.LayoutLaw.{no_entry, entry_at_lem, length_directory_of}
use Rattle.model.specs.Steps.{entry_in}
use Rattle.view.proofs.RegionLaw.{kind_front}
use Rattle.view.specs.Kinds.{kinds_of, elem}

pub length_kinds : (es : List Entry) → length (kinds_of es) ≡ length es
unfolding kinds_of
length_kinds [] = refl
length_kinds (e ∷ es) = ap suc (length_kinds es)

pub kinds_drop : (i : ℕ) (es : List Entry) → kinds_of (drop i es) ≡ drop i (kinds_of es)
unfolding kinds_of
kinds_drop zero es = refl
kinds_drop (suc i) [] = refl
kinds_drop (suc i) (e ∷ es) = kinds_drop i es

kind_nth : (es : List Entry) (i : ℕ) → get_or (kinds_of es) i 0 ≡ (get_or es i no_entry).kind
unfolding kinds_of
kind_nth [] i = refl
kind_nth (e ∷ es) zero = refl
kind_nth (e ∷ es) (suc i) = kind_nth es i

pub elem_among : (k : ℕ) (es : List Entry) → elem k (kinds_of es) ≡ among k es
unfolding kinds_of elem among
elem_among k [] = refl
elem_among k (e ∷ es) = ap (λ (t : Bool). eqb e.kind k || t) (elem_among k es)

pub elem_kinds : (k i : ℕ) (es : List Entry) → elem k (drop i (kinds_of es)) ≡ among k (drop i es)
elem_kinds k i es = ap (elem k) (sym (kinds_drop i es)) ∙ elem_among k (drop i es)

-- of the n voted entries of x
pub length_voted_kinds : (n : ℕ) (x : List ℕ) → length (kinds_of (directory_of n x)) ≡ n
length_voted_kinds n x = length_kinds (directory_of n x) ∙ length_directory_of n x

pub kind_at : (n : ℕ) (x : List ℕ) (i : ℕ) → i < n → get_or (kinds_of (directory_of n x)) i 0 ≡ (entry_in n x i).kind
unfolding directory_of
kind_at n x i h = kind_nth (entries n (directory_bytes_of n x)) i ∙ ap (λ (e : Entry). e.kind) (entry_at_lem n (directory_bytes_of n x) i no_entry h)

pub kind_read : (n : ℕ) (x : List ℕ) (i : ℕ) → i < n → get_or (kinds_of (directory_of n x)) i 0 ≡ read 2 (voted 48 (16 * n) x) (16 * i + 0)
kind_read n x i h = kind_at n x i h ∙ sym (kind_front n x i)

-- ---- a search that goes on to the end

module _ (k : ℕ) (xs : List ℕ) (j : ℕ) (h : j < length xs) where
  pub elem_hit : (t : Bool) → get_or xs j 0 ≡ k → true || elem k (drop (j + 1) xs) ≡ t || elem k (drop j xs)
  unfolding elem
  elem_hit t e = sym (rw (drop-cons xs j 0 h, eq-eqb (get_or xs j 0) k e) (or-true t))

  pub elem_miss : (t : Bool) → (get_or xs j 0 ≡ k → ⊥) → t || elem k (drop (j + 1) xs) ≡ t || elem k (drop j xs)
  unfolding elem
  elem_miss t e = rw (add-one, drop-cons xs j 0 h, ne_eqb (get_or xs j 0) k e)

pub elem_end : (k : ℕ) (xs : List ℕ) (j : ℕ) (t : Bool) → length xs ≤ j → t || elem k (drop j xs) ≡ t
unfolding elem
elem_end k xs j true h = refl
elem_end k xs j false h = rw (drop_of_length-le xs h)
