-- The states that scrub passes through, and the words that it meets in them. (FORMAT 8)
use Rattle.std.specs.Prelude.{◌≡◌, true, false, List, [], ◌∷◌, ◌++◌, ℕ, suc, ◌+◌, ◌*◌, ◌/◌, ◌<◌, length, get_or, Some}
use Rattle.model.specs.Bytes.{at, word_at}
use Rattle.model.specs.Refusals.{fine}
use Rattle.model.specs.Layout.{count, directory, Entry}
use Rattle.model.specs.Parse.{parse_verdict}
use Rattle.model.specs.Parity.{columns, syndrome}
use Rattle.model.specs.Views.{nth}
use Rattle.model.specs.Scan.{Codeword, is_protected, Visit, visit_of, words_of}
use Rattle.model.specs.Scrub.{State, scrub_word, scrub_words, scrub_region}
use Rattle.model.specs.Mend.{InRegion}

abbrev pub begun : List ℕ → State
begun x = record { image = x; met = []; visited = false }

abbrev pub entered : State → State
entered s = record { image = s.image; met = s.met; visited = true }

-- scrub of x is before region i, in state s
pub data Before (x : List ℕ) : ℕ → State → Type 0 where
  first : Before x 0 (begun x)
  next : {i : ℕ} {s : State} → Before x i s → i < count x → parse_verdict s.image ≡ fine → Before x (suc i) (scrub_region i s)

-- scrub of x meets word p in state t
pub record Meets (x : List ℕ) (p : Codeword) (t : State) : Type 0 where
  -- before the word's region, which is entry i of the image as it then was, the state was s
  pub i : ℕ
  pub s : State
  pub before : Before x i s
  pub counted : i < count x
  pub parses : parse_verdict s.image ≡ fine
  pub region : Entry
  pub listed : nth i (directory s.image) ≡ Some region
  -- the region is protected, and has a plane
  pub protected : is_protected region ≡ true
  pub visit : Visit
  pub visited : visit_of (length s.image) (directory s.image) region ≡ visit ∷ []
  -- the words before p are done
  pub done : List Codeword
  pub rest : List Codeword
  pub words : words_of visit ≡ done ++ (p ∷ rest)
  pub now : t ≡ scrub_words done (entered s)

-- scrub of x changes byte b, as it meets word p in state t
pub record Changes (x : List ℕ) (b : ℕ) : Type 0 where
  pub p : Codeword
  pub t : State
  pub meets : Meets x p t
  pub changes : at (scrub_word p t).image b ≡ at t.image b → ⊥
  -- the syndrome is the column of data bit i, and b is the byte of the word that has the bit
  pub i : ℕ
  pub is_data : i < 64
  pub column : syndrome (word_at t.image p.word) (at t.image p.check) ≡ get_or columns i 0
  pub place : b ≡ 8 * p.word + i / 8
  -- so b is a byte of the protected region
  pub inside : InRegion meets.region b
