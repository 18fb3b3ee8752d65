-- Steps of code, for private contracts; nothing that a reader must believe. Scrub, mend and the writer; each comes to the model's definition (proofs/ScrubLaw, HeaderHalf, AppendLaw). (FORMAT 8 to 10)
use Rattle.std.specs.Prelude.{Bool, true, false, List, [], ◌∷◌, ◌++◌, ℕ, zero, suc, ◌+◌, ◌*◌, length, drop, set, Option, None, Some}
use Rattle.model.specs.Bytes.{at}
use Rattle.model.specs.Layout.{maj3, count, header_length, header}
use Rattle.model.specs.Scan.{Codeword, codewords, class_at}
use Rattle.model.specs.Scrub.{stored_word}
use Rattle.model.specs.Mend.{fix_all}

-- ---- mend in two halves

-- all header copies become the vote
unfoldable pub mend_header : List ℕ → List ℕ
mend_header x = header x ++ drop (header_length (count x)) x

-- each examined word in turn
unfoldable pub mend_words : List ℕ → List ℕ
mend_words x = fix_all (codewords x) x

-- ---- the header half in place: of three copies of k bytes that start at base

-- the vote on byte j, written to its three places
unfoldable pub copy_vote : ℕ → ℕ → ℕ → List ℕ → List ℕ
copy_vote base k j x =
    let v = maj3 (at x (base + j)) (at x (base + k + j)) (at x (base + 2 * k + j)) in
    set (set (set x (base + j) v) (base + k + j) v) (base + 2 * k + j) v

-- the votes on the m bytes from byte j on, each written to its three places
unfoldable pub copy_votes : ℕ → ℕ → ℕ → ℕ → List ℕ → List ℕ
copy_votes base k zero j x = x
copy_votes base k (suc m) j x = copy_votes base k m (suc j) (copy_vote base k j x)

-- ---- scrub, the image alone: each word in turn, the check bytes left

unfoldable pub scrub_all : List Codeword → List ℕ → List ℕ
scrub_all [] x = x
scrub_all (p ∷ ps) x = scrub_all ps (stored_word (class_at x p) p x)

-- ---- the writer: the buffer `out` with the bytes `done` written at its front

abbrev pub over : List ℕ → List ℕ → List ℕ
over done out = done ++ drop (length done) out

-- ---- a search over entries

-- whether a search found an entry
abbrev pub is_some : Option ℕ → Bool
is_some None = false
is_some (Some j) = true
