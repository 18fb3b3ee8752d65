-- Laws for code that walks a list of entries from the front: what is left from i on, entry by entry. Assumes nothing.
use mathlib.Core.Path.{◌≡◌, refl, sym, ap, ◌∙◌}
use mathlib.Core.Bool.{Bool, true, false}
use mathlib.Core.List.{List, [], ◌∷◌}
use Rattle.std.specs.Prelude.{None, Some}
use Prim.Native.Nat.{ℕ, zero, suc, ◌+◌, ◌≤◌, ◌<◌}
use native.Mathlib.Nat.{le_of_suc-le-suc, not-suc-le-zero}
use native.Mathlib.Numerals.{add-one}
use borrow.Author.Tests.{lt-ltb, le-ltb}
use lib.ListN.{length, get_or, drop}
use lib.Seq.{drop-nil}
use Rattle.model.specs.Refusals.{fine, refuse}
use Rattle.model.specs.Layout.{Entry, end}
use Rattle.model.specs.Parse.{among, entries_verdict}
use Rattle.model.specs.Views.{nth, first_that}

-- ---- entry e stands at i

module _ (es : List Entry) (i : ℕ) (e : Entry) (s : drop i es ≡ e ∷ drop (i + 1) es) where
  pub first_here : (t : Entry → Bool) → t e ≡ true → first_that t (drop i es) ≡ Some e
  unfolding first_that
  first_here t h = rw (s, h)

  pub first_next : (t : Entry → Bool) → t e ≡ false → first_that t (drop (i + 1) es) ≡ first_that t (drop i es)
  unfolding first_that
  first_next t h = rw (s, h)

  module _ (len : ℕ) where
    pub verdict_past : len < end e → entries_verdict len i (drop i es) ≡ refuse 7 i
    unfolding entries_verdict
    verdict_past l = rw (s, lt-ltb len (end e) l)

    pub verdict_twice : end e ≤ len → among e.kind (drop (i + 1) es) ≡ true → entries_verdict len i (drop i es) ≡ refuse 8 e.kind
    unfolding entries_verdict
    verdict_twice l a = rw (s, le-ltb len (end e) l, a)

    pub verdict_next : end e ≤ len → among e.kind (drop (i + 1) es) ≡ false
        → entries_verdict len (i + 1) (drop (i + 1) es) ≡ entries_verdict len i (drop i es)
    unfolding entries_verdict
    verdict_next l a =
        sym (rw (s, le-ltb len (end e) l, a) (ap (λ (k : ℕ). entries_verdict len k (drop (i + 1) es)) (sym (add-one i))))

-- ---- nothing is left

module _ (es : List Entry) (i : ℕ) (s : drop i es ≡ []) where
  pub first_end : (t : Entry → Bool) → first_that t (drop i es) ≡ None
  unfolding first_that
  first_end t = rw s

  pub verdict_end : (len : ℕ) → entries_verdict len i (drop i es) ≡ fine
  unfolding entries_verdict
  verdict_end len = rw s

-- ---- entry i itself

pub nth_in : (es : List Entry) (i : ℕ) (d : Entry) → i < length es → nth i es ≡ Some (get_or es i d)
unfolding nth
nth_in [] i d h = absurd (not-suc-le-zero h)
nth_in (e ∷ es) zero d h = refl
nth_in (e ∷ es) (suc i) d h = nth_in es i d (le_of_suc-le-suc h)

pub nth_past : (es : List Entry) (i : ℕ) → length es ≤ i → nth i es ≡ None
unfolding nth
nth_past [] i h = refl
nth_past (e ∷ es) zero h = absurd (not-suc-le-zero h)
nth_past (e ∷ es) (suc i) h = nth_past es i (le_of_suc-le-suc h)

pub nth_first : (es : List Entry) (i : ℕ) (f : Entry) (fs : List Entry) → drop i es ≡ f ∷ fs → nth i es ≡ Some f
unfolding nth
nth_first [] i f fs e = let z : [] ≡ f ∷ fs = sym (drop-nil i) ∙ e in cc
nth_first (g ∷ es) zero f fs e = cc
nth_first (g ∷ es) (suc i) f fs e = nth_first es i f fs e

pub nth_gone : (es : List Entry) (i : ℕ) → nth i es ≡ None → drop i es ≡ []
unfolding nth
nth_gone [] i e = drop-nil i
nth_gone (f ∷ es) zero e = cc
nth_gone (f ∷ es) (suc i) e = nth_gone es i e

pub nth_there : (es : List Entry) (i : ℕ) (f : Entry) → nth i es ≡ Some f → drop i es ≡ f ∷ drop (suc i) es
unfolding nth
nth_there [] i f e = cc
nth_there (g ∷ es) zero f e = cc
nth_there (g ∷ es) (suc i) f e = nth_there es i f e
