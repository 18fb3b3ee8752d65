-- Check bytes by a table of 8 x 256: what it has to hold, and what a word, and a run of words, decode to by any such table. (FORMAT 7)
use Rattle.std.specs.Prelude.{◌≡◌, List, ℕ, zero, suc, ◌+◌, ◌*◌, ◌/◌, ◌%◌, ◌^◌, ◌<◌, length}
use Rattle.std.specs.Int.Bits.{bit_xor}
use Rattle.model.specs.Bytes.{at, word_at, tabulate}
use Rattle.model.specs.Parity.{check_of, Class, class_of, Outcome, outcome_as}
use Rattle.model.specs.Scan.{Report, report, slice_words}

-- ---- the table

-- entry i: the check byte of the word with byte i % 256 in place i / 256, and 0 elsewhere
unfoldable pub entry_at : ℕ → ℕ
entry_at i = check_of (i % 256 * 2 ^ (8 * (i / 256)))

unfoldable pub check_table : List ℕ
check_table = tabulate 2048 entry_at

-- xs is the table
abbrev pub IsCheckTable : List ℕ → Type 0
IsCheckTable xs = xs ≡ check_table

-- filled up to entry n
pub record Filled (n : ℕ) (t : List ℕ) : Type 0 where
  pub long : length t ≡ 2048
  pub right : (i : ℕ) → i < n → at t i ≡ entry_at i

-- ---- by any table: with `check_table` these are the model's (`table_check`, `table_outcome` and `table_scan` in proofs/)

-- the entry of the byte in place k of word w
abbrev pub entry_for : List ℕ → ℕ → ℕ → ℕ
entry_for t w k = at t (256 * k + w / 2 ^ (8 * k) % 256)

-- the exclusive-or of the entries of places 0 to k
unfoldable pub entries_to : List ℕ → ℕ → ℕ → ℕ
entries_to t w zero = entry_for t w 0
entries_to t w (suc k) = bit_xor (entries_to t w k) (entry_for t w (suc k))

unfoldable pub check_with : List ℕ → ℕ → ℕ
check_with t w = entries_to t w 7

unfoldable pub decode_with : List ℕ → ℕ → ℕ → Class
decode_with t w c = class_of (bit_xor (check_with t w) c)

unfoldable pub outcome_with : List ℕ → ℕ → ℕ → Outcome
outcome_with t w c = outcome_as (decode_with t w c) w

unfoldable pub slice_scan_with : List ℕ → List ℕ → List ℕ → Report
slice_scan_with t data' plane = report (tabulate (slice_words data' plane) (λ w. decode_with t (word_at data' w) (at plane w)))
