-- Steps of code, for private contracts; nothing that a reader must believe. Entries held as their first and their last word, in 32 bits each. (FORMAT 10)
use Rattle.std.specs.Prelude.{◌≡◌, ◌&&◌, cond, List, ℕ, zero, suc, ◌+◌, ◌-◌, ◌^◌, ◌<◌, ◌≤◌, eqb, ltb, leb, Option, None, Some}
use Rattle.model.specs.Bytes.{at}
use Rattle.model.specs.Layout.{Entry}
use Rattle.model.specs.Views.{nth}
use Rattle.overlap.specs.declared.spans.SpanTable.{SpanTable}

-- the last word of an entry, at most 2^32 - 1; 0 for an empty entry
unfoldable pub last_word : Entry → ℕ
last_word e = cond (eqb e.words 0) 0 (cond (ltb (e.offset + e.words - 1) 4294967295) (e.offset + e.words - 1) 4294967295)

-- the first of the k entries from j on that the words from a to b meet, by their first words xs and their last words ys
unfoldable pub overlaps_from : ℕ → ℕ → List ℕ → List ℕ → ℕ → ℕ → Option ℕ
overlaps_from a b xs ys j zero = None
overlaps_from a b xs ys j (suc k) = cond (leb a (at ys j) && leb (at xs j) b) (Some j) (overlaps_from a b xs ys (suc j) k)

pub record SpanOf (es : List Entry) (t : SpanTable) (high j : ℕ) : Type 0 where
  pub entry : Entry
  pub there : nth j es ≡ Some entry
  pub first : at t.first j ≡ entry.offset
  pub last : at t.last j ≡ last_word entry
  pub small : entry.offset < 2 ^ 32
  pub below : entry.offset + entry.words ≤ high

-- t holds the first i entries, which end at word high at the latest
pub record Holds (es : List Entry) (i : ℕ) (t : SpanTable) (high : ℕ) : Type 0 where
  pub each : (j : ℕ) → j < i → SpanOf es t high j
