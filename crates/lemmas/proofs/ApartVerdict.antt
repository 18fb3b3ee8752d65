-- The first misplaced entry by a walk over the directory that says no more than its number: what laws about mend go by. Assumes nothing.
use mathlib.Core.Path.{◌≡◌, refl, sym, ap, ◌∙◌}
use mathlib.Core.Bool.{Bool, true, false, ◌||◌, cond, or-true, or-false}
use mathlib.Core.List.{List, [], ◌∷◌, ◌++◌}
use Rattle.std.specs.Prelude.{Option, None, Some}
use Prim.Native.Nat.{ℕ, suc}
use Rattle.model.specs.Refusals.{Verdict, fine, refuse, ◌then◌, refuse_if, overlapping_regions}
use Rattle.model.specs.Layout.{Entry, count, directory}
use Rattle.model.specs.Parse.{Header, parsed_as, header_of, parse, parse_verdict}
use Rattle.model.specs.Mend.{meets, meets_from, in_header, placement_as, placement_from, placement_of, placement, placement_verdict, mend_verdict}
use Rattle.lemmas.specs.Steps.{is_some}

unfoldable pub meets_any_lem : Entry → List Entry → Bool
meets_any_lem e [] = false
meets_any_lem e (f ∷ fs) = meets e f || meets_any_lem e fs

-- of the entries from entry i on; `earlier` are those before, the nearest first
unfoldable pub apart_verdict : ℕ → ℕ → List Entry → List Entry → Verdict
apart_verdict n i earlier [] = fine
apart_verdict n i earlier (e ∷ es) =
    refuse_if (in_header n e || meets_any_lem e earlier) overlapping_regions i then
    apart_verdict n (suc i) (e ∷ earlier) es

-- ---- the first entry that is met

met_last : (j : ℕ) (e : Entry) (fs : List Entry) (g : Entry) → is_some (meets_from j e (fs ++ (g ∷ []))) ≡ meets e g || is_some (meets_from j e fs)
unfolding meets_from
met_last j e [] g = one (meets e g) ∙ sym (or-false (meets e g))
  where
    one : (t : Bool) → is_some (cond t (Some j) None) ≡ t
    one true = refl
    one false = refl
met_last j e (f ∷ fs) g = go (meets e f) (met_last (suc j) e fs g)
  where
    go : (t : Bool) → is_some (meets_from (suc j) e (fs ++ (g ∷ []))) ≡ meets e g || is_some (meets_from (suc j) e fs)
        → is_some (cond t (Some j) (meets_from (suc j) e (fs ++ (g ∷ [])))) ≡ meets e g || is_some (cond t (Some j) (meets_from (suc j) e fs))
    go true r = sym (or-true (meets e g))
    go false r = r

-- ---- it is mend's verdict

-- the entries before i, in order and the nearest first
verdict_from : (h : Header) (i : ℕ) (earlier nearest es : List Entry) → ((e : Entry) → is_some (meets_from 0 e earlier) ≡ meets_any_lem e nearest)
    → placement_verdict (placement_from h i earlier es) ≡ apart_verdict h.regions i nearest es
unfolding placement_from apart_verdict
verdict_from h i earlier nearest [] s = refl
verdict_from h i earlier nearest (e ∷ es) s =
    go (in_header h.regions e) (meets_from 0 e earlier) (meets_any_lem e nearest) (s e)
    (verdict_from h (suc i) (earlier ++ (e ∷ [])) (e ∷ nearest) es (λ f. same f))
  where
    same : (f : Entry) → is_some (meets_from 0 f (earlier ++ (e ∷ []))) ≡ meets_any_lem f (e ∷ nearest)
    same f = met_last 0 f earlier e ∙ ap (λ (t : Bool). meets f e || t) (s f) ∙ sym (any_next f)
      where
        any_next : (f : Entry) → meets_any_lem f (e ∷ nearest) ≡ meets f e || meets_any_lem f nearest
        any_next f = unfold meets_any_lem in refl

    go : (t : Bool) (o : Option ℕ) (u : Bool) → is_some o ≡ u
        → placement_verdict (placement_from h (suc i) (earlier ++ (e ∷ [])) es) ≡ apart_verdict h.regions (suc i) (e ∷ nearest) es
        → placement_verdict (placement_as t o i (placement_from h (suc i) (earlier ++ (e ∷ [])) es))
        ≡ (refuse_if (t || u) overlapping_regions i then apart_verdict h.regions (suc i) (e ∷ nearest) es)
    go true o u q r = refl
    go false (Some j) u q r = ap (λ (z : Bool). refuse_if z overlapping_regions i then apart_verdict h.regions (suc i) (e ∷ nearest) es) q
    go false None u q r = r ∙ ap (λ (z : Bool). refuse_if z overlapping_regions i then apart_verdict h.regions (suc i) (e ∷ nearest) es) q

pub verdict_all : (x : List ℕ) → placement_verdict (placement_from (header_of x) 0 [] (directory x)) ≡ apart_verdict (count x) 0 [] (directory x)
unfolding header_of meets_from meets_any_lem
verdict_all x = verdict_from (header_of x) 0 [] [] (directory x) (λ e. refl)

pub mend_verdict_lem : (x : List ℕ) → mend_verdict x ≡ (parse_verdict x then apart_verdict (count x) 0 [] (directory x))
unfolding mend_verdict placement parse
mend_verdict_lem x = go (parse_verdict x)
  where
    go : (v : Verdict) → placement_verdict (placement_of (parsed_as v (header_of x)) (directory x)) ≡ (v then apart_verdict (count x) 0 [] (directory x))
    go fine = verdict_all x
    go (refuse n d) = refl
