-- What an answer says of the verdict behind it. Assumes nothing.
use mathlib.Core.Path.{◌≡◌, refl, sym, ap, ◌∙◌}
use mathlib.Core.List.{List}
use Rattle.std.specs.Prelude.{Option, None, Some, Result, Ok, Err}
use Prim.Native.Nat.{ℕ}
use native.Mathlib.Omega.{arith}
use Rattle.model.specs.Layout.{Entry, count}
use Rattle.model.specs.Parse.{Header, accepted, refused, parsed_as, parse_verdict, header_of}
use Rattle.model.specs.Parse as model
use Rattle.error.specs.declared.Refusal.{Refusal}
use Rattle.error.specs.Refused.{number_of, detail_of}
use Rattle.layout.specs.declared.Region.{Region}
use Rattle.layout.specs.Regions.{region_of}
use Rattle.view.specs.declared.header.Header as view
use Rattle.model.specs.Refusals.{Verdict, fine, refuse}
use Rattle.view.specs.Answers.{fine_with, refused_with, with_count, found_as, as_parsed}

pub counted_fine : (v : Verdict) (n m : ℕ) → fine_with n ≡ with_count v m → v ≡ fine
counted_fine fine n m e = refl
counted_fine (refuse k d) n m e = cc

pub counted_count : (v : Verdict) (n m : ℕ) → fine_with n ≡ with_count v m → n ≡ m
counted_count fine n m e = cc
counted_count (refuse k d) n m e = cc

pub counted_refused : (v : Verdict) (k d m : ℕ) → refused_with k d ≡ with_count v m → v ≡ refuse k d
counted_refused fine k d m e = cc
counted_refused (refuse k' d') k d m e = cc

pub with_fine : (v : Verdict) (n m : ℕ) → v ≡ fine → n ≡ m → fine_with n ≡ with_count v m
with_fine v n m e f = ap fine_with f ∙ ap (λ (w : Verdict). with_count w m) (sym e)

pub with_refused : (v : Verdict) (k d m : ℕ) → v ≡ refuse k d → refused_with k d ≡ with_count v m
with_refused v k d m e = ap (λ (w : Verdict). with_count w m) (sym e)

-- ---- a region that is found stands for an entry

pub found_some : (o : Option Entry) (p : Region) → Some p ≡ found_as o → (e : Entry) × (o ≡ Some e) × (p ≡ region_of e)
found_some None p f = let z : ◌≡◌ {A = ℕ} 0 1 = cc in absurd (omega arith)
found_some (Some e) p f = (e, refl, cc)

pub found_none : (o : Option Entry) → None ≡ found_as o → o ≡ None
found_none None f = refl
found_none (Some e) f = cc

-- ---- a parse that is accepted, and one that is refused

parsed_as_lem : (v : Verdict) (h g : Header) → accepted h ≡ parsed_as v g → (v ≡ fine) × (h ≡ g)
parsed_as_lem fine h g e = (refl, cc)
parsed_as_lem (refuse n d) h g e = let z : ◌≡◌ {A = ℕ} 0 1 = cc in absurd (omega arith)

refused_as : (v : Verdict) (n d : ℕ) (g : Header) → refused n d ≡ parsed_as v g → v ≡ refuse n d
refused_as fine n d g e = cc
refused_as (refuse n' d') n d g e = cc

module _ (x : List ℕ) (r : Result view.Header Refusal) (e : as_parsed r ≡ model.parse x) where
  pub parsed_fine : (h : view.Header) → r ≡ Ok h → parse_verdict x ≡ fine
  unfolding model.parse
  parsed_fine h f = (parsed_as_lem (parse_verdict x) _ (header_of x) (ap as_parsed (sym f) ∙ e)).0

  pub parsed_count : (h : view.Header) → r ≡ Ok h → h.region_count ≡ count x
  unfolding model.parse header_of
  parsed_count h f = ap (λ (g : Header). g.regions) (parsed_as_lem (parse_verdict x) _ (header_of x) (ap as_parsed (sym f) ∙ e)).1

  pub parsed_refused : (s : Refusal) → r ≡ Err s → parse_verdict x ≡ refuse (number_of s) (detail_of s)
  unfolding model.parse
  parsed_refused s f = refused_as (parse_verdict x) (number_of s) (detail_of s) (header_of x) (ap as_parsed (sym f) ∙ e)
