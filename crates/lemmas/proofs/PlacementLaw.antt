-- Where an image's regions lie: what a misplaced entry is said to lie on it lies on. Assumes nothing.
use mathlib.Core.Path.{◌≡◌, refl, sym, ap, ◌∙◌, subst}
use mathlib.Core.Bool.{Bool, true, false, cond}
use mathlib.Core.List.{List, [], ◌∷◌, ◌++◌, append_assoc}
use Rattle.std.specs.Prelude.{Option, None, Some}
use Prim.Native.Nat.{ℕ, zero, suc, ◌+◌, ◌≤◌, ◌<◌}
use native.Mathlib.Nat.{le_of_suc-le-suc, not-suc-le-zero}
use native.Mathlib.Decide.{dec_lt}
use native.Mathlib.Omega.{arith}
use borrow.Author.Tests.{ltb-true, lt-ltb}
use lib.Dec.{ltb}
use lib.ListN.{length, length-append}
use Rattle.model.specs.Refusals.{Verdict, fine, refuse, overlapping_regions}
use Rattle.model.specs.Layout.{Entry, count, directory, header_length, start}
use Rattle.model.specs.Views.{nth}
use Rattle.model.specs.Parse.{Header, parsed_as, header_of, parse, parse_verdict}
use Rattle.model.specs.Mend.{InRegion, meets, meets_from, in_header, Placement, placed_apart, over_header, over_region, refused_placement, placement_as, placement_from, placement_of, placement, placement_verdict}
use Rattle.model.specs.Placement.{OnHeader, OnRegion, TrueOf}
use Rattle.lemmas.proofs.ApartVerdict.{apart_verdict, verdict_all}
use Rattle.lemmas.proofs.VerdictLaw.{true_false}
use Rattle.lemmas.proofs.MisplacedLaw.{both, shared_byte, meets_byte, one_entry, accepts_apart, names_first}

-- ---- the first entry that is met

-- entry k of fs is the first that shares a byte with e
record FirstMet (e : Entry) (fs : List Entry) (k : ℕ) : Type 0 where
  found : Entry
  there : nth k fs ≡ Some found
  hit : meets e found ≡ true
  lower : (l : ℕ) → l < k → (g : Entry) → nth l fs ≡ Some g → meets e g ≡ false

first_met : (j : ℕ) (e : Entry) (fs : List Entry) (m : ℕ) → meets_from j e fs ≡ Some m → (k : ℕ) × (m ≡ j + k) × FirstMet e fs k
unfolding meets_from nth
first_met j e [] m h = absurd (let z : ◌≡◌ {A = ℕ} 0 1 = cc in omega arith)
first_met j e (f ∷ fs) m h = go (meets e f) refl h (λ u. first_met (suc j) e fs m u)
  where
    go : (t : Bool) → meets e f ≡ t → cond t (Some j) (meets_from (suc j) e fs) ≡ Some m
        → (meets_from (suc j) e fs ≡ Some m → (k : ℕ) × (m ≡ suc j + k) × FirstMet e fs k) → (k : ℕ) × (m ≡ j + k) × FirstMet e (f ∷ fs) k
    go true g u r =
        let q : j ≡ m = cc in
        (0, omega arith, record { found = f; there = refl; hit = g; lower = λ l h. absurd (not-suc-le-zero h) })
    go false g u r =
        let s = r u in
        let q = s.1 in
        (suc s.0, omega arith, record { found = s.2.found; there = s.2.there; hit = s.2.hit; lower = λ l h a n. low s.0 s.2.lower l h a n })
      where
        low : (k : ℕ) → ((l : ℕ) → l < k → (a : Entry) → nth l fs ≡ Some a → meets e a ≡ false) → (l : ℕ) → l < suc k → (a : Entry)
            → nth l (f ∷ fs) ≡ Some a → meets e a ≡ false
        low k b zero h a n = ap (meets e) (one_entry a f (sym n)) ∙ g
        low k b (suc l) h a n = b l (le_of_suc-le-suc h) a n

-- ---- what it names

module _ (e : Entry) where
  nth_behind : (fs es : List Entry) → nth (length fs) (fs ++ (e ∷ es)) ≡ Some e
  unfolding nth
  nth_behind [] es = refl
  nth_behind (f ∷ fs) es = nth_behind fs es

nth_front : (fs es : List Entry) (k : ℕ) → k < length fs → nth k (fs ++ es) ≡ nth k fs
unfolding nth
nth_front [] es k h = absurd (not-suc-le-zero h)
nth_front (f ∷ fs) es zero h = refl
nth_front (f ∷ fs) es (suc k) h = nth_front fs es k (le_of_suc-le-suc h)

nth_within : (fs : List Entry) (k : ℕ) (f : Entry) → nth k fs ≡ Some f → k < length fs
unfolding nth
nth_within [] k f h = absurd (let z : ◌≡◌ {A = ℕ} 0 1 = cc in omega arith)
nth_within (g ∷ fs) zero f h = omega arith
nth_within (g ∷ fs) (suc k) f h = let l = nth_within fs k f h in omega arith

-- of entries `all` under a header h
abbrev Named : Header → List Entry → Placement → Type 0
Named h all (placed_apart g) = g ≡ h
Named h all (over_header i) = OnHeader h.regions all i
Named h all (over_region i j) = OnRegion h.regions all i j
Named h all (refused_placement n d) = ⊥

module _ (h : Header) (e : Entry) (earlier es : List Entry) where
  on_header_lem : in_header h.regions e ≡ true → OnHeader h.regions (earlier ++ (e ∷ es)) (length earlier)
  unfolding in_header
  on_header_lem t =
      let s = both (ltb 0 e.words) (ltb (start e) (header_length h.regions)) t in
      record {
        entry = e;
        there = nth_behind e earlier es;
        holds = ltb-true 0 e.words s.0;
        inside = ltb-true (start e) (header_length h.regions) s.1;
      }

  on_region : (j : ℕ) → in_header h.regions e ≡ false → meets_from 0 e earlier ≡ Some j → OnRegion h.regions (earlier ++ (e ∷ es)) (length earlier) j
  unfolding in_header
  on_region j t o = go (first_met 0 e earlier j o)
    where
      go : (k : ℕ) × (j ≡ 0 + k) × FirstMet e earlier k → OnRegion h.regions (earlier ++ (e ∷ es)) (length earlier) j
      go (k, q, m) =
          let z : j ≡ k = omega arith in
          let l = nth_within earlier k m.found m.there in
          let b = shared_byte e m.found m.hit in
          subst (λ (n : ℕ). OnRegion h.regions (earlier ++ (e ∷ es)) (length earlier) n) (sym z)
          (record {
            entry = e;
            other = m.found;
            there = nth_behind e earlier es;
            stands = nth_front earlier (e ∷ es) k l ∙ m.there;
            behind = past b.0 b.1 (dec_lt (start e) (header_length h.regions));
            earlier = l;
            shared = b;
            lowest = λ k' s f n p u v. true_false (sym (meets_byte e f p u v) ∙ m.lower k' s f (sym (nth_front earlier (e ∷ es) k' (omega arith)) ∙ n));
          })
        where
          past : (b : ℕ) → InRegion e b → Dec (start e < header_length h.regions) → header_length h.regions ≤ start e
          past b u (no n) = omega arith
          past b u (yes y) =
              let u₀ = u.0 in
              let u₁ = u.1 in
              absurd (true_false (sym (rw (lt-ltb 0 e.words (omega arith), lt-ltb (start e) (header_length h.regions) y) refl) ∙ t))

named_from : (h : Header) (earlier es : List Entry) → Named h (earlier ++ es) (placement_from h (length earlier) earlier es)
unfolding placement_from
named_from h earlier [] = refl
named_from h earlier (e ∷ es) =
    go (in_header h.regions e) (meets_from 0 e earlier) refl refl
    (subst (λ (z : ℕ). Named h (earlier ++ (e ∷ es)) (placement_from h z (earlier ++ (e ∷ [])) es)) (length-append earlier (e ∷ []) ∙ grown)
    (subst (λ (all : List Entry). Named h all (placement_from h (length (earlier ++ (e ∷ []))) (earlier ++ (e ∷ [])) es)) (append_assoc earlier (e ∷ []) es)
    (named_from h (earlier ++ (e ∷ [])) es)))
  where
    grown : length earlier + 1 ≡ suc (length earlier)
    grown = omega arith

    go : (t : Bool) (o : Option ℕ) → in_header h.regions e ≡ t → meets_from 0 e earlier ≡ o
        → Named h (earlier ++ (e ∷ es)) (placement_from h (suc (length earlier)) (earlier ++ (e ∷ [])) es)
        → Named h (earlier ++ (e ∷ es)) (placement_as t o (length earlier) (placement_from h (suc (length earlier)) (earlier ++ (e ∷ [])) es))
    go true o p q r = on_header_lem h e earlier es p
    go false (Some j) p q r = on_region h e earlier es j p q
    go false None p q r = r

-- the entry that is named is the first that is misplaced
pub placement_named : (x : List ℕ) → TrueOf x (placement x)
unfolding placement parse header_of
placement_named x = go (parse_verdict x) refl
  where
    told : parse_verdict x ≡ fine → (p : Placement) → Named (header_of x) (directory x) p → placement_verdict p ≡ apart_verdict (count x) 0 [] (directory x) → TrueOf x p
    told v (placed_apart g) a w = (rw (v, a), accepts_apart (count x) (directory x) (sym w))
    told v (over_header i) a w = (v, (names_first (count x) (directory x) overlapping_regions i (sym w)).1, a)
    told v (over_region i j) a w = (v, (names_first (count x) (directory x) overlapping_regions i (sym w)).1, a)
    told v (refused_placement n d) a w = absurd a

    go : (v : Verdict) → parse_verdict x ≡ v → TrueOf x (placement_of (parsed_as v (header_of x)) (directory x))
    go fine v = told v (placement_from (header_of x) 0 [] (directory x)) (named_from (header_of x) [] (directory x)) (verdict_all x)
    go (refuse n d) v = rw v
