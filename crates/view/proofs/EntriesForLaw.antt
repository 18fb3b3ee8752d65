-- The entries that a lookup sees. Assumes nothing.
use mathlib.Core.Path.{◌≡◌, sym, ap, ◌∙◌}
use mathlib.Core.Bool.{Bool, true, false, not, ◌&&◌, cond}
use mathlib.Core.List.{List, []}
use Rattle.std.specs.Prelude.{None, Some}
use Prim.Native.Nat.{ℕ, ◌+◌, ◌*◌, ◌^◌, ◌≤◌, ◌<◌}
use native.Mathlib.Omega.{arith}
use borrow.Author.Tests.{eq-eqb, ne_eqb, lt-ltb, le-ltb, le-leb, lt-leb}
use lib.Bits.{bit_and}
use lib.Dec.{eqb, ltb}
use lib.ListN.{length}
use Rattle.bits.specs.Bit.{bit}
use Rattle.model.specs.Bytes.{read}
use Rattle.model.specs.Refusals.{fine}
use Rattle.model.specs.Layout.{Entry, count, header_length, voted, directory_bytes_of, directory_of, directory, entries, start, end}
use Rattle.model.specs.Parse.{parse_verdict}
use Rattle.model.specs.Views.{range, entries_for, nth, region_at, first_that, of_kind, plane_for, find_region, ecc_for}
use Rattle.model.proofs.LayoutLaw.{no_entry, entry_at_lem, length_directory_of, flags_in_lem, covers_in}
use Rattle.model.proofs.ParseLaw.{accepted_long}
use Rattle.model.proofs.WalkLaw.{nth_in, nth_past}
use Rattle.model.specs.Steps.{entry_in}
use Rattle.layout.proofs.FlagLaw.{flag}
use Rattle.view.proofs.RegionLaw.{kind_front}

pub entries_for_short : (n : ℕ) (x : List ℕ) → length x < header_length n → entries_for n x ≡ []
unfolding entries_for
entries_for_short n x h = rw (lt-ltb (length x) (header_length n) h)

pub entries_for_long : (n : ℕ) (x : List ℕ) → header_length n ≤ length x → entries_for n x ≡ directory_of n x
unfolding entries_for
entries_for_long n x h = rw (le-ltb (length x) (header_length n) h)

pub length_entries_for : (n : ℕ) (x : List ℕ) → length (entries_for n x) ≤ n
unfolding entries_for
length_entries_for n x = go (ltb (length x) (header_length n))
  where
    go : (t : Bool) → length (cond t [] (directory_of n x)) ≤ n
    go true = omega arith
    go false = omega (arith, length_directory_of n x)

-- all of the directory, of an image that parses
pub entries_for_is : (x : List ℕ) → parse_verdict x ≡ fine → entries_for (count x) x ≡ directory x
unfolding directory
entries_for_is x h = entries_for_long (count x) x (accepted_long x h)

-- ---- by index

pub region_short : (n : ℕ) (x : List ℕ) (i : ℕ) → length x < header_length n → region_at n x i ≡ None
unfolding region_at nth
region_short n x i h = rw (entries_for_short n x h)

pub region_past : (n : ℕ) (x : List ℕ) (i : ℕ) → header_length n ≤ length x → n ≤ i → region_at n x i ≡ None
unfolding region_at
region_past n x i h l = rw (entries_for_long n x h) (nth_past (directory_of n x) i (omega (arith, length_directory_of n x)))

pub region_in : (n : ℕ) (x : List ℕ) (i : ℕ) → header_length n ≤ length x → i < n → region_at n x i ≡ Some (entry_in n x i)
unfolding region_at directory_of
region_in n x i h l =
    rw (entries_for_long n x h)
    (nth_in (entries n (directory_bytes_of n x)) i no_entry (omega (arith, length_directory_of n x)) ∙ ap Some (entry_at_lem n (directory_bytes_of n x) i no_entry l))

-- ---- by kind, and by the kind that a plane covers

pub find_short : (n : ℕ) (x : List ℕ) (k : ℕ) → length x < header_length n → find_region n x k ≡ None
unfolding find_region first_that
find_short n x k h = rw (entries_for_short n x h)

pub find_long : (n : ℕ) (x : List ℕ) (k : ℕ) → header_length n ≤ length x → find_region n x k ≡ first_that (of_kind k) (directory_of n x)
unfolding find_region
find_long n x k h = rw (entries_for_long n x h)

pub ecc_short : (n : ℕ) (x : List ℕ) (k : ℕ) → length x < header_length n → ecc_for n x k ≡ None
unfolding ecc_for first_that
ecc_short n x k h = rw (entries_for_short n x h)

module _ (n : ℕ) (x : List ℕ) (k : ℕ) (h : header_length n ≤ length x) where
  pub ecc_none : first_that (plane_for k) (directory_of n x) ≡ None → ecc_for n x k ≡ None
  unfolding ecc_for
  ecc_none e = rw (entries_for_long n x h, e)

  module _ (p : Entry) (e : first_that (plane_for k) (directory_of n x) ≡ Some p) where
    pub ecc_past : length x < end p → ecc_for n x k ≡ None
    unfolding ecc_for
    ecc_past l = rw (entries_for_long n x h, e, lt-leb (end p) (length x) l)

    pub ecc_there : end p ≤ length x → ecc_for n x k ≡ Some (range (start p) (end p))
    unfolding ecc_for
    ecc_there l = rw (entries_for_long n x h, e, le-leb (end p) (length x) l)

-- ---- what is read of entry i, field by field

module _ (n : ℕ) (x : List ℕ) (i : ℕ) where
  pub kind_test : (k r : ℕ) → r ≡ read 2 (voted 48 (16 * n) x) (16 * i + 0) → r ≡ k → of_kind k (entry_in n x i) ≡ true
  kind_test k r e f = eq-eqb (entry_in n x i).kind k (sym (e ∙ kind_front n x i) ∙ f)

  pub kind_test_not : (k r : ℕ) → r ≡ read 2 (voted 48 (16 * n) x) (16 * i + 0) → (r ≡ k → ⊥) → of_kind k (entry_in n x i) ≡ false
  kind_test_not k r e f = ne_eqb (entry_in n x i).kind k (λ g. f (e ∙ kind_front n x i ∙ g))

  pub plane_test : (k f v : ℕ) (r : Bool) → f ≡ read 2 (voted 48 (16 * n) x) (16 * i + 2) → v ≡ read 2 (voted 48 (16 * n) x) (16 * i + 12)
      → r ≡ bit f 3 && eqb v k → plane_for k (entry_in n x i) ≡ r
  unfolding directory_bytes_of
  plane_test k f v r ef ev e = sym (e ∙ rw (ef, ev, flags_in_lem n x i, covers_in n x i))

-- ---- a flag that is tested

pub flag_off : (i a : ℕ) → bit_and a (2 ^ i) ≡ 0 → bit a i ≡ false
flag_off i a e = sym (flag i a) ∙ ap not (eq-eqb (bit_and a (2 ^ i)) 0 e)

pub flag_on : (i a : ℕ) → (bit_and a (2 ^ i) ≡ 0 → ⊥) → bit a i ≡ true
flag_on i a e = sym (flag i a) ∙ ap not (ne_eqb (bit_and a (2 ^ i)) 0 e)
