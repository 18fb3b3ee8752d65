-- No two answers fit one promise. (`as_parsed` tells every two of `parse` apart. `region_at` and `find_region` answer what `found_as` gives, and `ecc_for` a range: `one_place` of crate tables.) Assumes nothing.
use mathlib.Core.Path.{◌≡◌, ap}
use Rattle.model.specs.Parse.{Parsed}
use Rattle.model.specs.Parse as model
use Rattle.model.proofs.OneAnswer.{OneAnswer, agree}
use Rattle.error.specs.declared.Refusal.{Refusal}
use Rattle.error.specs.Refused.{as_verdict}
use Rattle.error.proofs.OneAnswer.{one_refusal}
use Rattle.tables.proofs.OneAnswer.{one_place}
use Rattle.view.specs.declared.header.Header.{Header}
use Rattle.std.specs.Prelude.{Result, Ok, Err}
use Rattle.view.specs.Answers.{as_header, as_parsed}
use Rattle.view.proofs.header.parse.Reads as parse
use Rattle.view.proofs.header.Header.needs_scrub.Reads as needs-scrub
use Rattle.view.proofs.regions.region_at.Reads as region-at
use Rattle.view.proofs.regions.find_region.Reads as find-region
use Rattle.view.proofs.regions.ecc_for.Reads as ecc-for

-- the header that the model's stands for
abbrev coded : model.Header → Header
coded h =
    record {
      region_count = h.regions;
      prologue_disagreed = h.prologue_disagreed;
      directory_disagreed = h.directory_disagreed;
    }

pub one_header : (a b : Header) → as_header a ≡ as_header b → a ≡ b
one_header a b e = ap coded e

pub one_parse : (a b : Result Header Refusal) → as_parsed a ≡ as_parsed b → a ≡ b
one_parse (Ok g) (Ok h) e = let f : as_header g ≡ as_header h = cc in ap Ok (one_header g h f)
one_parse (Ok g) (Err r) e = cc
one_parse (Err r) (Ok h) e = cc
one_parse (Err r) (Err q) e = let v : as_verdict r ≡ as_verdict q = cc in ap Err (one_refusal r q v)

-- ---- no two answers of a function fit its promise

pub one_answer_parse : OneAnswer parse.Learnt
one_answer_parse κs a r r' s s' p q = one_parse r r' (agree p q)

pub one_answer_needs_scrub : OneAnswer needs-scrub.Learnt
one_answer_needs_scrub κs a r r' s s' p q = agree p q

pub one_answer_region_at : OneAnswer region-at.Learnt
one_answer_region_at κs a r r' s s' p q = agree p q

pub one_answer_find_region : OneAnswer find-region.Learnt
one_answer_find_region κs a r r' s s' p q = agree p q

pub one_answer_ecc_for : OneAnswer ecc-for.Learnt
one_answer_ecc_for κs a r r' s s' p q = one_place r r' (agree p q)
