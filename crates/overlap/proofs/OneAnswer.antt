-- No two answers fit one promise. (`as_placement` tells every two apart.) Assumes nothing.
use mathlib.Core.Path.{◌≡◌, sym, ap, ap₂}
use Rattle.model.proofs.OneAnswer.{OneAnswer, agree}
use Rattle.error.specs.Refused.{as_verdict}
use Rattle.error.proofs.OneAnswer.{one_refusal}
use Rattle.view.specs.Answers.{as_header}
use Rattle.view.proofs.OneAnswer.{one_header}
use Rattle.std.specs.Prelude.{Result, Ok, Err}
use Rattle.view.specs.declared.header.Header.{Header}
use Rattle.overlap.specs.declared.Misplaced.{Misplaced}
use Rattle.overlap.specs.declared.Misplaced.TheVariants.{OnHeader, OnRegion, Refused}
use Rattle.overlap.specs.Answers.{as_placement}
use Rattle.overlap.proofs.check_placement.Reads as check-placement

one_misplaced : (a b : Misplaced) → as_placement (Err a) ≡ as_placement (Err b) → a ≡ b
one_misplaced (OnHeader i) (OnHeader k) e = let f : i ≡ k = cc in ap OnHeader f
one_misplaced (OnRegion i j) (OnRegion k l) e =
    let f : i ≡ k = cc in
    let g : j ≡ l = cc in
    ap₂ OnRegion f g
one_misplaced (Refused r) (Refused q) e = let v : as_verdict r ≡ as_verdict q = cc in ap Refused (one_refusal r q v)
one_misplaced (OnHeader i) (OnRegion k l) e = cc
one_misplaced (OnHeader i) (Refused q) e = cc
one_misplaced (OnRegion i j) (OnHeader k) e = cc
one_misplaced (OnRegion i j) (Refused q) e = cc
one_misplaced (Refused r) (OnHeader k) e = cc
one_misplaced (Refused r) (OnRegion k l) e = cc

apart_or_not : (h : Header) (m : Misplaced) → as_placement (Ok h) ≡ as_placement (Err m) → ⊥
apart_or_not h (OnHeader i) e = cc
apart_or_not h (OnRegion i j) e = cc
apart_or_not h (Refused r) e = cc

pub one_placement : (a b : Result Header Misplaced) → as_placement a ≡ as_placement b → a ≡ b
one_placement (Ok g) (Ok h) e = let f : as_header g ≡ as_header h = cc in ap Ok (one_header g h f)
one_placement (Ok g) (Err m) e = absurd (apart_or_not g m e)
one_placement (Err m) (Ok h) e = absurd (apart_or_not h m (sym e))
one_placement (Err m) (Err n) e = ap Err (one_misplaced m n e)

-- ---- no two answers of a function fit its promise

pub one_answer_check_placement : OneAnswer check-placement.Learnt
one_answer_check_placement κs a r r' s s' p q = one_placement r r' (agree p q)
