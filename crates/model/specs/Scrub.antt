-- Scrub, as the Rust has it. (FORMAT 8)
use Rattle.std.specs.Prelude.{Bool, true, false, List, [], ◌∷◌, ℕ, zero, suc, ◌*◌, length, Option, None, Some}
use Rattle.std.proofs.lemmas.List.Edits.{sets}
use Rattle.model.specs.Bytes.{le_bytes, given, word_at}
use Rattle.model.specs.Refusals.{Verdict, fine, refuse}
use Rattle.model.specs.Layout.{count, directory, Entry}
use Rattle.model.specs.Parse.{parse_verdict}
use Rattle.model.specs.Views.{nth}
use Rattle.model.specs.Parity.{Class, clean, flipped, uncorrectable, flip_word}
use Rattle.model.specs.Scan.{Codeword, class_at, Visit, visit_of, words_of, Report, report}

-- the image as it stands, the classes of the words met, the latest first, and whether a region was visited
pub record State : Type 0 where
  pub image : List ℕ
  pub met : List Class
  pub visited : Bool

-- only corrected words are written
abbrev pub stored_word : Class → Codeword → List ℕ → List ℕ
stored_word clean p x = x
stored_word (flipped i) p x = sets x (8 * p.word) (le_bytes 8 (flip_word i (word_at x p.word)))
stored_word uncorrectable p x = x

-- each word and check byte is read as it then stands
unfoldable pub scrub_word : Codeword → State → State
scrub_word p s =
    let c = class_at s.image p in
    record { image = stored_word c p s.image; met = c ∷ s.met; visited = s.visited }

-- the words of a list, scrubbed one after the other
unfoldable pub scrub_words : List Codeword → State → State
scrub_words [] s = s
scrub_words (p ∷ ps) s = scrub_words ps (scrub_word p s)

-- the words of each visit, scrubbed; with one visit there is a report
unfoldable pub scrub_visits : List Visit → State → State
scrub_visits [] s = s
scrub_visits (v ∷ vs) s =
    scrub_visits vs (scrub_words (words_of v) (record { image = s.image; met = s.met; visited = true }))

-- an entry, if there is one, of the directory `all` of an image of len bytes
abbrev pub visit_at : ℕ → List Entry → Option Entry → List Visit
visit_at len all None = []
visit_at len all (Some e) = visit_of len all e

-- region i of the image as it then stands
unfoldable pub scrub_region : ℕ → State → State
scrub_region i s =
    let all = directory s.image in
    scrub_visits (visit_at (length s.image) all (nth i all)) s

-- ---- the answer, with the image that is left

pub record Scrubbed : Type 0 where
  pub image : List ℕ
  pub report : Option Report

abbrev pub reported : State → Option Report
reported s = given s.visited (report s.met)

-- a if the image parses, else b
abbrev pub if_parsed : Verdict → Scrubbed → Scrubbed → Scrubbed
if_parsed fine a b = a
if_parsed (refuse k d) a b = b

-- n regions from i on, the image parsed afresh before each; where that fails, nothing, with the earlier writes kept
unfoldable pub scrub_from : ℕ → ℕ → State → Scrubbed
scrub_from zero i s = record { image = s.image; report = reported s }
scrub_from (suc n) i s =
    let r = scrub_from n (suc i) (scrub_region i s) in
    if_parsed (parse_verdict s.image) r (record { image = s.image; report = None })

-- the region count is the first parse's
unfoldable pub scrub : List ℕ → Scrubbed
scrub x =
    if_parsed (parse_verdict x)
    (scrub_from (count x) 0 (record { image = x; met = []; visited = false }))
    (record { image = x; report = None })
