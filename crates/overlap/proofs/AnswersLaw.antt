-- What an answer says of the model's placement, and what that says of parse and mend. Assumes nothing.
use mathlib.Core.Path.{◌≡◌, refl, sym, ap, ◌∙◌, subst}
use mathlib.Core.List.{List, []}
use Prim.Native.Nat.{ℕ, ◌≤◌}
use native.Mathlib.Omega.{arith}
use Rattle.model.specs.Layout.{directory}
use Rattle.model.specs.Parse.{Parsed, accepted, parse}
use Rattle.model.specs.Views.{entries_for}
use Rattle.model.specs.Mend.{mend_verdict, refused_placement, placement_from, placement_of, placement, placement_verdict}
use Rattle.model.proofs.ParseLaw.{accepted_few}
use Rattle.error.specs.declared.Refusal.{Refusal}
use Rattle.error.specs.Refused.{number_of, detail_of, as_verdict}
use Rattle.view.specs.declared.header.Header.{Header}
use Rattle.std.specs.Prelude.{Result, Ok, Err}
use Rattle.view.specs.Answers.{as_header, as_parsed}
use Rattle.view.proofs.AnswersLaw.{parsed_fine, parsed_count}
use Rattle.view.proofs.EntriesForLaw.{entries_for_is}
use Rattle.model.specs.Placement.{TrueOf}
use Rattle.lemmas.proofs.PlacementLaw.{placement_named}
use Rattle.overlap.specs.declared.Misplaced.{Misplaced}
use Rattle.overlap.specs.declared.Misplaced.TheVariants.{OnHeader, OnRegion, Refused}
use Rattle.overlap.specs.Answers.{as_placement, refusal_of}

-- ---- from parse's answer

module _ (x : List ℕ) (r : Result Header Refusal) (e : as_parsed r ≡ parse x) where
  pub parse_refused : (s : Refusal) → r ≡ Err s → refused_placement (number_of s) (detail_of s) ≡ placement x
  unfolding placement
  parse_refused s f = ap (λ (p : Parsed). placement_of p (directory x)) (ap as_parsed (sym f) ∙ e)

  module _ (h : Header) (f : r ≡ Ok h) where
    pub few : h.region_count ≤ 1024
    few = omega (arith, parsed_count x r e h f, accepted_few x (parsed_fine x r e h f))

    pub parse_accepted : placement_from (as_header h) 0 [] (entries_for h.region_count x) ≡ placement x
    unfolding placement
    parse_accepted =
        ap (placement_from (as_header h) 0 []) (ap (λ (n : ℕ). entries_for n x) (parsed_count x r e h f) ∙ entries_for_is x (parsed_fine x r e h f))
        ∙ ap (λ (p : Parsed). placement_of p (directory x)) (ap as_parsed (sym f) ∙ e)

-- ---- from the answer

module _ (x : List ℕ) (r : Result Header Misplaced) (e : as_placement r ≡ placement x) where
  pub placed_verdict : mend_verdict x ≡ placement_verdict (as_placement r)
  unfolding mend_verdict
  placed_verdict = ap placement_verdict (sym e)

  pub placed_parse : (h : Header) → r ≡ Ok h → accepted (as_header h) ≡ parse x
  placed_parse h f = sym (subst (TrueOf x) (sym (ap as_placement (sym f) ∙ e)) (placement_named x)).0

-- what is misplaced is refused as mend refuses it
pub misplaced : (m : Misplaced) → placement_verdict (as_placement (Err m)) ≡ as_verdict (refusal_of m)
misplaced (OnHeader i) = refl
misplaced (OnRegion i j) = refl
misplaced (Refused r) = refl
