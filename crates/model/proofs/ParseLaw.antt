-- Parse's checks, one at a time in their order. Assumes nothing.
use mathlib.Core.Path.{◌≡◌, refl}
use mathlib.Core.Bool.{Bool, true, false, not}
use mathlib.Core.List.{List}
use Prim.Native.Nat.{ℕ, ◌≤◌, ◌<◌}
use borrow.Author.Tests.{eq-eqb, ne_eqb, lt-ltb, le-ltb, ltb-false}
use lib.Dec.{eqb, ltb}
use lib.ListN.{length, take}
use Rattle.model.specs.Refusals.{Verdict, fine, refuse, ◌then◌, refuse_if}
use Rattle.model.specs.Crc.{crc32}
use Rattle.model.specs.Layout.{prologue, magic_in, marker_in, version_in, count_in, checksum_in, count, header_length, directory}
use Rattle.model.specs.Parse.{prologue_verdict, entries_verdict, header_verdict, parse_verdict}

-- ---- the prologue's

module _ (p : List ℕ) where
  pub bad_magic_lem : (magic_in p ≡ 0x4B415558 → ⊥) → prologue_verdict p ≡ refuse 2 0
  unfolding prologue_verdict
  bad_magic_lem f = rw (ne_eqb (magic_in p) 0x4B415558 f)

  module _ (m : magic_in p ≡ 0x4B415558) where
    pub bad_marker : (marker_in p ≡ 0xFEFF → ⊥) → prologue_verdict p ≡ refuse 3 0
    unfolding prologue_verdict
    bad_marker f = rw (eq-eqb (magic_in p) 0x4B415558 m, ne_eqb (marker_in p) 0xFEFF f)

    module _ (b : marker_in p ≡ 0xFEFF) where
      pub bad_version : (version_in p ≡ 2 → ⊥) → prologue_verdict p ≡ refuse 4 (version_in p)
      unfolding prologue_verdict
      bad_version f = rw (eq-eqb (magic_in p) 0x4B415558 m, eq-eqb (marker_in p) 0xFEFF b, ne_eqb (version_in p) 2 f)

      module _ (v : version_in p ≡ 2) where
        pub bad_checksum : (checksum_in p ≡ crc32 (take 12 p) → ⊥) → prologue_verdict p ≡ refuse 5 0
        unfolding prologue_verdict
        bad_checksum f =
            rw (eq-eqb (magic_in p) 0x4B415558 m, eq-eqb (marker_in p) 0xFEFF b, eq-eqb (version_in p) 2 v, ne_eqb (checksum_in p) (crc32 (take 12 p)) f)

        module _ (s : checksum_in p ≡ crc32 (take 12 p)) where
          pub too_many : 1024 < count_in p → prologue_verdict p ≡ refuse 6 (count_in p)
          unfolding prologue_verdict
          too_many h =
              rw (eq-eqb (magic_in p) 0x4B415558 m, eq-eqb (marker_in p) 0xFEFF b, eq-eqb (version_in p) 2 v, eq-eqb (checksum_in p) (crc32 (take 12 p)) s, lt-ltb 1024 (count_in p) h)

          pub good_prologue : count_in p ≤ 1024 → prologue_verdict p ≡ fine
          unfolding prologue_verdict
          good_prologue h =
              rw (eq-eqb (magic_in p) 0x4B415558 m, eq-eqb (marker_in p) 0xFEFF b, eq-eqb (version_in p) 2 v, eq-eqb (checksum_in p) (crc32 (take 12 p)) s, le-ltb 1024 (count_in p) h)

-- ---- the whole

module _ (x : List ℕ) where
  pub too_short : length x < 48 → parse_verdict x ≡ refuse 1 0
  unfolding parse_verdict header_verdict
  too_short h = rw (lt-ltb (length x) 48 h)

  module _ (l : 48 ≤ length x) where
    pub prologue_refused : (n d : ℕ) → prologue_verdict (prologue x) ≡ refuse n d → parse_verdict x ≡ refuse n d
    unfolding parse_verdict header_verdict
    prologue_refused n d e = rw (le-ltb (length x) 48 l, e)

    module _ (p : prologue_verdict (prologue x) ≡ fine) where
      pub header_past : length x < header_length (count x) → parse_verdict x ≡ refuse 1 0
      unfolding parse_verdict header_verdict count
      header_past h = rw (le-ltb (length x) 48 l, p, lt-ltb (length x) (header_length (count_in (prologue x))) h)

      pub entries_say : header_length (count x) ≤ length x → parse_verdict x ≡ entries_verdict (length x) 0 (directory x)
      unfolding parse_verdict header_verdict count
      entries_say h = rw (le-ltb (length x) 48 l, p, le-ltb (length x) (header_length (count_in (prologue x))) h)

-- ---- an accepted chain taken apart

pub then_first : (a b : Verdict) → a then b ≡ fine → a ≡ fine
then_first fine b e = refl
then_first (refuse n d) b e = cc

pub then_rest : (a b : Verdict) → a then b ≡ fine → b ≡ fine
then_rest fine b e = e
then_rest (refuse n d) b e = cc

pub not_refused : (t : Bool) (n d : ℕ) → refuse_if t n d ≡ fine → t ≡ false
not_refused true n d e = cc
not_refused false n d e = refl

pub accepted_count : (p : List ℕ) → prologue_verdict p ≡ fine → count_in p ≤ 1024
unfolding prologue_verdict
accepted_count p e = ltb-false 1024 (count_in p) (not_refused (ltb 1024 (count_in p)) 6 (count_in p) (go
    (refuse_if (not (eqb (magic_in p) 0x4B415558)) 2 0) (refuse_if (not (eqb (marker_in p) 0xFEFF)) 3 0) (refuse_if (not (eqb (version_in p) 2)) 4 (version_in p))
    (refuse_if (not (eqb (checksum_in p) (crc32 (take 12 p)))) 5 0) (refuse_if (ltb 1024 (count_in p)) 6 (count_in p)) e))
  where
    go : (a b c d f : Verdict) → a then b then c then d then f ≡ fine → f ≡ fine
    go a b c d f h = then_rest d f (then_rest c (d then f) (then_rest b (c then d then f) (then_rest a (b then c then d then f) h)))

module _ (x : List ℕ) (e : parse_verdict x ≡ fine) where
  after_length : prologue_verdict (prologue x) then refuse_if (ltb (length x) (header_length (count x))) 1 0 then entries_verdict (length x) 0 (directory x) ≡ fine
  unfolding parse_verdict header_verdict count
  after_length = then_rest (refuse_if (ltb (length x) 48) 1 0) _ e

  after_prologue : refuse_if (ltb (length x) (header_length (count x))) 1 0 then entries_verdict (length x) 0 (directory x) ≡ fine
  after_prologue = then_rest (prologue_verdict (prologue x)) _ after_length

  pub accepted_long : header_length (count x) ≤ length x
  accepted_long =
      ltb-false (length x) (header_length (count x)) (not_refused (ltb (length x) (header_length (count x))) 1 0 (then_first _ (entries_verdict (length x) 0 (directory x)) after_prologue))

  pub accepted_prologue : prologue_verdict (prologue x) ≡ fine
  accepted_prologue = then_first (prologue_verdict (prologue x)) _ after_length

  pub accepted_entries : entries_verdict (length x) 0 (directory x) ≡ fine
  accepted_entries = then_rest (refuse_if (ltb (length x) (header_length (count x))) 1 0) _ after_prologue

  pub accepted_few : count x ≤ 1024
  unfolding count
  accepted_few = accepted_count (prologue x) accepted_prologue
