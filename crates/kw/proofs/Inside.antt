-- The bytes that a lookup names lie in the image, so that C may index with them; they are 0 and 0 where it finds nothing or refuses. Assumes nothing.
use mathlib.Core.Path.{◌≡◌, refl, sym, ap, ◌∙◌, subst}
use mathlib.Core.Bool.{Bool, true, false, cond}
use mathlib.Core.List.{List, [], ◌∷◌}
use Rattle.std.specs.Prelude.{Option, None, Some}
use Prim.Native.Nat.{ℕ, zero, suc}
use native.Mathlib.Omega.{arith}
use lib.ListN.{length, get_or}
use contract.Lifetimes.{Lfts}
use Rattle.model.specs.Refusals.{Verdict, fine, refuse}
use Rattle.model.specs.Layout.{Entry, count, directory, start, end}
use Rattle.model.specs.Parse.{Header, Parsed, accepted, refused, parse, parsed_as, header_of, parse_verdict}
use Rattle.model.specs.Views.{nth, first_that, of_kind, find_region, region_at}
use Rattle.view.proofs.EntriesForLaw.{entries_for_is}
use Rattle.lemmas.proofs.EntriesLaw.{In, now, next, ends, accepted_image}
use Rattle.kw.specs.Regions.{region_numbers, region_at_numbers, Inside}
use Rattle.kw.proofs.regions.kw_region.Reads as kw-region
use Rattle.kw.proofs.regions.kw_region_at.Reads as kw-region-at

accepted_fine : (x : List ℕ) (h : Header) → parse x ≡ accepted h → parse_verdict x ≡ fine
unfolding parse
accepted_fine x h e = go (parse_verdict x) e
  where
    go : (v : Verdict) → parsed_as v (header_of x) ≡ accepted h → v ≡ fine
    go fine q = refl
    go (refuse n d) q = let z : ◌≡◌ {A = ℕ} 0 1 = cc in absurd (omega arith)

-- ---- an entry that is found stands in the directory

nth_there : (es : List Entry) (i : ℕ) (e : Entry) → nth i es ≡ Some e → In e es
unfolding nth
nth_there [] i e h = let z : ◌≡◌ {A = ℕ} 0 1 = cc in absurd (omega arith)
nth_there (f ∷ es) zero e h = let s : e ≡ f = cc in now s
nth_there (f ∷ es) (suc i) e h = next (nth_there es i e h)

first_there : (t : Entry → Bool) (es : List Entry) (e : Entry) → first_that t es ≡ Some e → In e es
unfolding first_that
first_there t [] e h = let z : ◌≡◌ {A = ℕ} 0 1 = cc in absurd (omega arith)
first_there t (f ∷ es) e h = go (λ g. first_there t es e g) (t f) h
  where
    go : (first_that t es ≡ Some e → In e es) → (b : Bool) → cond b (Some f) (first_that t es) ≡ Some e → In e (f ∷ es)
    go r true g = let s : e ≡ f = cc in now s
    go r false g = next (r g)

module _ (x : List ℕ) (f : parse_verdict x ≡ fine) where
  region_there : (k : ℕ) (e : Entry) → find_region (count x) x k ≡ Some e → In e (directory x)
  unfolding find_region
  region_there k e q = first_there (of_kind k) (directory x) e (ap (first_that (of_kind k)) (sym (entries_for_is x f)) ∙ q)

  entry_there : (i : ℕ) (e : Entry) → region_at (count x) x i ≡ Some e → In e (directory x)
  unfolding region_at
  entry_there i e q = nth_there (directory x) i e (ap (nth i) (sym (entries_for_is x f)) ∙ q)

-- ---- the first byte, and the byte past the last

entry_inside : (x : List ℕ) → parse_verdict x ≡ fine → (e : Entry) → In e (directory x) → Inside x (start e) (end e)
entry_inside x f e m = (omega arith, ends (length x) (accepted_image x f).entries e m)

nothing_inside : (x : List ℕ) → Inside x 0 0
nothing_inside x = (omega arith, omega arith)

-- of any image and kind, what kw_region answers
pub region_inside : (x : List ℕ) (k : ℕ) → let ns = region_numbers (parse x) (find_region (count x) x k) in Inside x (get_or ns 1 0) (get_or ns 2 0)
region_inside x k = go (parse x) refl (find_region (count x) x k) refl
  where
    go : (p : Parsed) → parse x ≡ p → (o : Option Entry) → find_region (count x) x k ≡ o → let ns = region_numbers p o in Inside x (get_or ns 1 0) (get_or ns 2 0)
    go (accepted h) e (Some r) q = let f = accepted_fine x h e in entry_inside x f r (region_there x f k r q)
    go (accepted h) e None q = nothing_inside x
    go (refused n d) e o q = nothing_inside x

-- of any image and index, what kw_region_at answers
pub region_at_inside : (x : List ℕ) (i : ℕ) → let ns = region_at_numbers (parse x) (region_at (count x) x i) in Inside x (get_or ns 3 0) (get_or ns 4 0)
region_at_inside x i = go (parse x) refl (region_at (count x) x i) refl
  where
    go : (p : Parsed) → parse x ≡ p → (o : Option Entry) → region_at (count x) x i ≡ o → let ns = region_at_numbers p o in Inside x (get_or ns 3 0) (get_or ns 4 0)
    go (accepted h) e (Some r) q = let f = accepted_fine x h e in entry_inside x f r (entry_there x f i r q)
    go (accepted h) e None q = nothing_inside x
    go (refused n d) e o q = nothing_inside x

-- ---- the same of the functions' own contracts: a call's image and the numbers that it leaves

pub kw_region_inside : (κs : Lfts 2) (a : _) (r : _) (s : _) → kw-region.Learnt κs a r s
    → let ns = s.1.1.0.now in Inside a.0.now (get_or ns 1 0) (get_or ns 2 0)
kw_region_inside κs a r s p =
    subst (λ (ns : List ℕ). Inside a.0.now (get_or ns 1 0) (get_or ns 2 0)) (sym p.1) (region_inside a.0.now a.1.0)

pub kw_region_at_inside : (κs : Lfts 2) (a : _) (r : _) (s : _) → kw-region-at.Learnt κs a r s
    → let ns = s.1.1.0.now in Inside a.0.now (get_or ns 3 0) (get_or ns 4 0)
kw_region_at_inside κs a r s p =
    subst (λ (ns : List ℕ). Inside a.0.now (get_or ns 3 0) (get_or ns 4 0)) (sym p.1) (region_at_inside a.0.now a.1.0)
